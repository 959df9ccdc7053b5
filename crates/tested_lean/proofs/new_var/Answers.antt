-- `tested_lean::new_var` meets its contract: where there is room the slot behind the nodes becomes an Unknown.
-- Assumes nothing.
use Rattle.refusals.proofs.Laws.{err_told}
use Rattle.tested_lean.proofs.Laws.{passed_within, var_back, var_ready, var_done}
use Rattle.tested_lean.proofs.new_var.Goals as goal

pub node_room-requires : goal.node_room-requires
node_room-requires c = passed_within c.requires

pub returns-in_err-node_room : goal.returns-in_err-node_room
returns-in_err-node_room c = rw (err_told c.from_residual.result c.from_residual.ensures.1) (var_back c.args.span c.in_err-node_room.ensures)

pub push_unknown-requires : goal.push_unknown-requires
push_unknown-requires c = var_ready c.args.span c.in_ok-node_room.ensures c.requires

pub returns : goal.returns
returns c = var_done c.args.span c.in_ok-node_room.ensures c.push_unknown.ensures
