-- `call_states::return_to` meets its contract: where 2 and 8 do not stand chart, store and names buffer are tested, and the form for these answers.
-- Assumes nothing.
use Rattle.refusals.proofs.Laws.{err_told}
use Rattle.call_states.proofs.Laws.{return_back}
use Rattle.call_states.proofs.return_to.Goals as goal

pub returns-in_err-lent : goal.returns-in_err-lent
returns-in_err-lent c = rw (err_told c.from_residual.result c.from_residual.ensures.1) (return_back _ _ _ c.in_err-lent.ensures c.args.name.now)
