-- `call_read::child_name` meets its contract: where 2 and 8 do not stand the store is tested, and the form for such a store answers.
-- Assumes nothing.
use Rattle.scope.specs.Calls.{name_call}
use Rattle.refusals.proofs.Laws.{err_told}
use Rattle.promise.proofs.BackLaws.{told_back}
use Rattle.call_read.proofs.child_name.Goals as goal

pub returns-in_err-lent : goal.returns-in_err-lent
unfolding name_call
returns-in_err-lent c = rw (err_told c.from_residual.result c.from_residual.ensures.1) (told_back _ _ _ _ _ c.in_err-lent.ensures _ _)
