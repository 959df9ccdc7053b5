-- `c_outs::tell_forced` meets its contract: what tells each case's number and words tells the answer. Assumes nothing.
use Rattle.c_outs.specs.Outs.{forced_number, forced_out}
use Rattle.c_outs.proofs.Laws.{told_by, forced_told}
use Rattle.c_outs.proofs.tell_forced.Goals as goal

pub returns : goal.returns
returns c = told_by forced_number forced_out _ _ (forced_told _ _) c.map.ensures.cases c.tell.ensures
