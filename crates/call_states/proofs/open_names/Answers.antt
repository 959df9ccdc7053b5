-- `call_states::open_names` meets its contract: a slice that passes the test is long enough, and no name is held then.
-- Assumes nothing.
use Rattle.refusals.proofs.Laws.{err_told}
use Rattle.call_states.proofs.Laws.{open_back, open_done}
use Rattle.call_states.proofs.open_names.Goals as goal

pub returns-in_err-opening : goal.returns-in_err-opening
returns-in_err-opening c = let a = c.args in
    rw (err_told c.from_residual.result c.from_residual.ensures.1) (open_back a.nodes a.children a.bs.now c.in_err-opening.ensures)

pub returns : goal.returns
returns c = let a = c.args in
    open_done a.nodes a.children a.bs.now c.in_ok-opening.ensures c.open_names.ensures
