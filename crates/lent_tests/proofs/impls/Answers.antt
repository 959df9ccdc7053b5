-- `lent_tests::impls` meets its contract: each impl type is tested, and of two refusals the one that is tested first is given.
-- Assumes nothing.
use Rattle.refusals.proofs.OrderLaws.{min_number}
use Rattle.lent_tests.proofs.Laws.{both}
use Rattle.lent_tests.proofs.impls.Goals as goal

pub returns-in-Err-Err : goal.returns-in-Err-Err
returns-in-Err-Err c = rw (c.min.ensures, min_number) (both _ _ _ c.in-Err-Err.ensures c.in-Err-Err.ensures')

pub returns-in-Err-default : goal.returns-in-Err-default
returns-in-Err-default c = both _ _ _ c.in-Err-default.ensures c.in-Err-default.ensures'

pub returns-in-Ok-default : goal.returns-in-Ok-default
returns-in-Ok-default c = both _ _ _ (rw c.in-Ok-default.is-0 at c.one_impl.ensures) c.one_impl-2.ensures
