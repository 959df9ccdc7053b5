-- `tested_lean::find` meets its contract: a type that is inside has the root that `roots` finds.
-- Assumes nothing.
use Rattle.refusals.proofs.Laws.{err_told}
use Rattle.tested_lean.proofs.Laws.{passed_within, find_back, find_linked, find_done}
use Rattle.tested_lean.proofs.find.Goals as goal

pub returns-in_err-inside : goal.returns-in_err-inside
returns-in_err-inside c = rw (err_told c.from_residual.result c.from_residual.ensures.1) (find_back c.args.t c.in_err-inside.ensures)

pub nodes_made-n-requires : goal.nodes_made-n-requires
nodes_made-n-requires c = (passed_within c.requires).head

pub find-requires : goal.find-requires
find-requires c = find_linked c.args.t c.in_ok-inside.ensures c.nodes_made-n.ensures c.requires

pub returns : goal.returns
returns c = find_done c.args.t c.in_ok-inside.ensures c.nodes_made-n.ensures c.find.ensures
