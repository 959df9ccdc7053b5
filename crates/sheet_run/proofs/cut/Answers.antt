-- `sheet_run::cut` meets its contract: a newline ends the input, or the last line lacks it.
-- Assumes nothing.
use Rattle.sheet_run.proofs.RunLaws.{cut_is}
use Rattle.sheet_run.proofs.cut.Goals as goal

pub returns : goal.returns
returns c = cut_is c.args.input c.strip_suffix.result c.strip_suffix.ensures.cases c.unwrap_or.ensures
