-- `c_outs::tell_name` meets its contract: what tells each case's number and words tells the answer. Assumes nothing.
use Rattle.c_outs.specs.Outs.{some_number, name_out}
use Rattle.c_outs.proofs.Laws.{told_by, name_told}
use Rattle.c_outs.proofs.tell_name.Goals as goal

pub returns : goal.returns
returns c = told_by some_number name_out _ _ (name_told _ _) c.map.ensures.cases c.tell.ensures
