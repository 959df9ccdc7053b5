-- Before the first read the line begins.
use Rattle.sheet.proofs.Laws.{begins}
use Rattle.sheet.proofs.serve.Goals as goal

pub loop-init : goal.loop-init
loop-init g c = record { store = c.requires.sheet_store; holds = begins c.args.line.now }
