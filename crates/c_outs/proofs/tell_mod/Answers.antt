-- `c_outs::tell_mod` meets its contract: what tells each case's number and words tells the answer. Assumes nothing.
use Rattle.c_outs.specs.Outs.{mod_number, mod_out}
use Rattle.c_outs.proofs.Laws.{told_by, mod_told}
use Rattle.c_outs.proofs.tell_mod.Goals as goal

pub returns : goal.returns
returns c = told_by mod_number mod_out _ _ (mod_told _ _) c.map.ensures.cases c.tell.ensures
