-- `c_outs::tell_node` meets its contract: what tells each case's number and words tells the answer. Assumes nothing.
use Rattle.c_outs.specs.Outs.{node_number, node_out}
use Rattle.c_outs.proofs.Laws.{told_by, node_told}
use Rattle.c_outs.proofs.tell_node.Goals as goal

pub returns : goal.returns
returns c = told_by node_number node_out _ _ (node_told _ _) c.map.ensures.cases c.tell.ensures
