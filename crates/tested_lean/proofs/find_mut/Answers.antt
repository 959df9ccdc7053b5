-- `tested_lean::find_mut` meets its contract: `roots` changes links alone.
-- Assumes nothing.
use Rattle.refusals.proofs.Laws.{err_told}
use Rattle.tested_lean.proofs.Laws.{passed_within, mut_back, find_linked, mut_done}
use Rattle.tested_lean.proofs.find_mut.Goals as goal

pub returns-in_err-inside : goal.returns-in_err-inside
returns-in_err-inside c = rw (err_told c.from_residual.result c.from_residual.ensures.1) (mut_back c.args.t c.in_err-inside.ensures)

pub nodes_made-n-requires : goal.nodes_made-n-requires
nodes_made-n-requires c = (passed_within c.requires).head

pub find_mut-requires : goal.find_mut-requires
find_mut-requires c = find_linked c.args.t c.in_ok-inside.ensures c.nodes_made-n.ensures c.requires

pub returns : goal.returns
returns c = mut_done c.args.t c.in_ok-inside.ensures c.nodes_made-n.ensures c.find_mut.ensures
