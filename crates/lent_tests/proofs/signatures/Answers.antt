-- `lent_tests::signatures` meets its contract: the returns turn the call back, or the parameters decide.
-- Assumes nothing.
use Rattle.refusals.proofs.Laws.{err_told}
use Rattle.lent_tests.proofs.Laws.{sig_back, sig_on}
use Rattle.lent_tests.proofs.signatures.Goals as goal

pub returns-in_err-pair : goal.returns-in_err-pair
returns-in_err-pair c = rw (err_told c.from_residual.result c.from_residual.ensures.1) (sig_back _ _ _ _ c.in_err-pair.ensures)

pub returns : goal.returns
returns c = sig_on _ _ _ _ c.in_ok-pair.ensures c.lists.ensures
