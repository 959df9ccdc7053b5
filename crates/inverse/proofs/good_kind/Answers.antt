-- `inverse::good_kind` meets its contract: a Tuple is as scope's row says, which antt computes.
-- Assumes nothing.
use mathlib.Core.Path.{refl}
use Rattle.scope.specs.Kinds.{row_of, rows}
use Rattle.inverse.proofs.good_kind.Goals as goal

pub returns-in-1 : goal.returns-in-1
unfolding row_of rows
returns-in-1 c = rw c.in-1.is refl
