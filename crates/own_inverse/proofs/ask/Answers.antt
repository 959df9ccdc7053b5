-- `own_inverse::ask` meets its contract: what the root or some visits tell, and else what a walk beside the memory's marks does.
-- Assumes nothing.
use Rattle.own_inverse.proofs.Laws.{ask_not, ask_marks}
use Rattle.own_inverse.proofs.ask.Goals as goal

pub returns-then-own : goal.returns-then-own
returns-then-own c =
    ask_marks c.requires c.quickly.ensures c.in-Some.is c.if-own.true c.idx.ensures c.know.ensures

pub returns-else-own : goal.returns-else-own
returns-else-own c = ask_not c.requires c.quickly.ensures c.in-Some.is c.if-own.false
