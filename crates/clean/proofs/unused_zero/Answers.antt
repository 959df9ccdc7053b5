-- `clean::unused_zero` meets its contract: the two parts that are tested are those of `unused_zero`.
-- Assumes nothing.
use native.Mathlib.Omega.{arith}
use Rattle.layout.specs.Words.{unused_zero}
use Rattle.clean.proofs.unused_zero.Goals as goal

pub returns-then-all_zero : goal.returns-then-all_zero
unfolding unused_zero
returns-then-all_zero c = grind arith

pub returns-else-all_zero : goal.returns-else-all_zero
unfolding unused_zero
returns-else-all_zero c = grind arith
