-- `roots::kept_word` meets its contract: its tests are the definition's, on the parts of the root.
-- Assumes nothing.
use native.Mathlib.Omega.{arith}
use Rattle.types.proofs.Laws.{idx_below}
use Rattle.roots.proofs.kept_word.Goals as goal

pub overflow_add-i : goal.overflow_add-i
overflow_add-i c = omega (arith, c.idx-i.ensures, idx_below c.args.root.0)
