-- `call_unify_lists::unify_fn_sig_recalling` meets its contract: where 2 and 8 do not stand the store is tested, and the form for such a store answers.
-- Assumes nothing.
use Rattle.scope.specs.Calls.{unify_fn_sig_call}
use Rattle.refusals.proofs.Laws.{err_told}
use Rattle.promise.proofs.BackLaws.{did_back}
use Rattle.call_unify_lists.proofs.unify_fn_sig_recalling.Goals as goal

pub returns-in_err-lent : goal.returns-in_err-lent
unfolding unify_fn_sig_call
returns-in_err-lent c = rw (err_told c.from_residual.result c.from_residual.ensures.1) (did_back _ _ _ _ _ c.in_err-lent.ensures _ _)
