-- `call_copy::import` meets its contract: where 2, 8 and 9 do not stand both stores are tested, and the form for such stores answers.
-- Assumes nothing.
use Rattle.refusals.proofs.Laws.{err_told}
use Rattle.call_copy.proofs.Laws.{stores_back}
use Rattle.call_copy.proofs.import.Goals as goal

pub returns-in_err-stores : goal.returns-in_err-stores
returns-in_err-stores c = rw (err_told c.from_residual.result c.from_residual.ensures.1) (stores_back _ _ _ _ _ _ _ c.in_err-stores.ensures c.args.ts.now _ c.args.out.now)
