-- `own_inverse::by_memory` meets its contract: a walk beside the memory's marks, after which every root that it met is marked, if it was good.
-- Assumes nothing.
use Rattle.own_inverse.proofs.Laws.{memory_asks, memory_not, memory_all}
use Rattle.own_inverse.proofs.by_memory.Goals as goal

pub by_marks-requires : goal.by_marks-requires
by_marks-requires c = memory_asks c.requires c.tell.auto.found c.tell.ensures

pub returns-then-not-by_marks : goal.returns-then-not-by_marks
returns-then-not-by_marks c = memory_not c.requires c.by_marks.ensures c.if-not-by_marks.true

pub returns : goal.returns
returns c =
    memory_all c.requires c.by_marks.ensures c.if-not-by_marks.false c.know_new.ensures
