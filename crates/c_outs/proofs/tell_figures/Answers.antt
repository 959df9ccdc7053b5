-- `c_outs::tell_figures` meets its contract: what tells each case's number and words tells the answer. Assumes nothing.
use Rattle.c_outs.specs.Outs.{figures_out}
use Rattle.c_outs.proofs.Laws.{told_by, figures_told}
use Rattle.c_outs.proofs.tell_figures.Goals as goal

pub returns : goal.returns
returns c = told_by (λ x. 0) figures_out _ _ (figures_told _ _) c.map.ensures.cases c.tell.ensures
