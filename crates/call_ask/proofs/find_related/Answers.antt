-- `call_ask::find_related` meets its contract: where 2 and 8 do not stand the store is tested, and the form for such a store answers.
-- Assumes nothing.
use mathlib.Core.Path.{refl}
use Rattle.scope.specs.Calls.{find_related_call}
use Rattle.refusals.proofs.Laws.{err_told}
use Rattle.promise.proofs.BackLaws.{told_back}
use Rattle.call_ask.proofs.find_related.Goals as goal

pub returns-in_err-lent : goal.returns-in_err-lent
unfolding find_related_call
returns-in_err-lent c = rw (err_told c.from_residual.result c.from_residual.ensures.1)
    record { outcome = told_back _ _ _ _ _ c.in_err-lent.ensures _ _; kept = λ y. refl }
