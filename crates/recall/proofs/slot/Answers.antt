-- `recall::slot` meets its contract: the numbers are small.
-- Assumes nothing.
use native.Mathlib.Omega.{arith}
use Rattle.recall.proofs.Laws.{row_small, pair_small}
use Rattle.recall.proofs.slot.Goals as goal

pub overflow_mul-result : goal.overflow_mul-result
overflow_mul-result c = omega (arith, row_small c.args.a.0 c.args.n c.code.ensures c.requires.1)

pub overflow_add-result : goal.overflow_add-result
overflow_add-result c = omega
    (arith, pair_small c.args.a.0 c.args.b.0 c.args.n c.code.ensures c.code-2.ensures c.requires.1)
