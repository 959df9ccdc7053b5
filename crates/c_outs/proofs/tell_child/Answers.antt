-- `c_outs::tell_child` meets its contract: what tells each case's number and words tells the answer. Assumes nothing.
use Rattle.c_outs.specs.Outs.{some_number, child_out}
use Rattle.c_outs.proofs.Laws.{told_by, child_told}
use Rattle.c_outs.proofs.tell_child.Goals as goal

pub returns : goal.returns
returns c = told_by some_number child_out _ _ (child_told _ _) c.map.ensures.cases c.tell.ensures
