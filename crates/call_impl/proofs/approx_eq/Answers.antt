-- `call_impl::approx_eq` meets its contract: where 2 and 8 do not stand the store is tested, and the form for such a store answers.
-- Assumes nothing.
use Rattle.scope.specs.Calls.{approx_eq_call}
use Rattle.refusals.proofs.Laws.{err_told}
use Rattle.promise.proofs.BackLaws.{did_back}
use Rattle.call_impl.proofs.approx_eq.Goals as goal

pub returns-in_err-lent : goal.returns-in_err-lent
unfolding approx_eq_call
returns-in_err-lent c = rw (err_told c.from_residual.result c.from_residual.ensures.1) (did_back _ _ _ _ _ c.in_err-lent.ensures _ _)
