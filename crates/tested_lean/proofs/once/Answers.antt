-- `tested_lean::once` meets its contract: a type that is remembered needs no node, and the header says whether it is.
-- Assumes nothing.
use Rattle.refusals.proofs.Laws.{err_told}
use Rattle.tested_lean.proofs.Laws.{passed_within, once_back, once_can, once_done}
use Rattle.tested_lean.proofs.once.Goals as goal

pub made-requires : goal.made-requires
made-requires c = (passed_within c.requires).head

pub once_room-requires : goal.once_room-requires
once_room-requires c = passed_within c.requires

pub returns-in_err-once_room : goal.returns-in_err-once_room
returns-in_err-once_room c = rw (err_told c.from_residual.result c.from_residual.ensures.1) (once_back c.args.what c.made.ensures c.in_err-once_room.ensures)

pub once-requires : goal.once-requires
once-requires c = once_can c.args.what c.made.ensures c.in_ok-once_room.ensures c.requires

pub returns : goal.returns
returns c = once_done c.args.what c.made.ensures c.in_ok-once_room.ensures c.once.ensures
