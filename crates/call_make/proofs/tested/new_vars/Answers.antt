-- `call_make::tested::new_vars` meets its contract: 10 is tested before 7, and where neither stands the types that the core writes are the reply.
-- Assumes nothing.
use Rattle.refusals.proofs.Laws.{err_told}
use Rattle.tested_lean.proofs.MakerLaws.{for_room}
use Rattle.call_make.proofs.tested.ListLaws.{vars_back, vars_short, vars_ready, vars_done}
use Rattle.call_make.proofs.tested.new_vars.Goals as goal

pub returns-in_err-room : goal.returns-in_err-room
returns-in_err-room c = let a = c.args in
    rw (err_told c.from_residual.result c.from_residual.ensures.1) (vars_back a.span a.count a.out.now _ (for_room a.count c.requires c.in_err-room.ensures))

pub returns-then-out-count : goal.returns-then-out-count
returns-then-out-count c = let a = c.args in
    vars_short a.span a.count a.out.now (for_room a.count c.requires c.in_ok-room.ensures) c.if-out-count.true

pub new_vars-requires-clause-ready : goal.new_vars-requires-clause-ready
new_vars-requires-clause-ready c = let a = c.args in
    vars_ready a.span a.count a.out.now (for_room a.count c.requires c.in_ok-room.ensures)

pub returns : goal.returns
returns c = let a = c.args in
    vars_done a.span a.count a.out.now (for_room a.count c.requires c.in_ok-room.ensures) c.if-out-count.false c.new_vars.ensures
