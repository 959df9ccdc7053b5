-- `call_open::open` meets its contract: slices that pass the test are what `make` asks, and it leaves the store just opened.
-- Assumes nothing.
use Rattle.refusals.proofs.Laws.{err_told}
use Rattle.refusals.proofs.OpenLaws.{openable}
use Rattle.call_open.proofs.OpenLaws.{open_back, open_done}
use Rattle.call_open.proofs.open.Goals as goal

pub returns-in_err-opening : goal.returns-in_err-opening
returns-in_err-opening c = let a = c.args in
    rw (err_told c.from_residual.result c.from_residual.ensures.1)
    (open_back a.nodes a.children a.h.now a.ws.now a.ks.now c.in_err-opening.ensures)

pub open-requires : goal.open-requires
open-requires c = let a = c.args in
    openable a.nodes a.children a.h.now a.ws.now a.ks.now c.in_ok-opening.ensures

pub returns : goal.returns
returns c = let a = c.args in
    open_done a.nodes a.children a.h.now a.ws.now a.ks.now c.in_ok-opening.ensures c.«open».ensures
