-- `merge::take` meets its contract: a kind goes to the root that stays, or else it keeps its state.
-- Assumes nothing.
use Rattle.merge.proofs.Laws.{take_known}
use Rattle.merge.proofs.take.Goals as goal

pub returns-in-Some : goal.returns-in-Some
returns-in-Some c =
    take_known c.invert_if-parent.result c.requires.room c.requires.sum c.idx.ensures c.held_at.ensures c.in-Some.is c.inv-inv.ensures
    c.invert_if-parent.ensures c.inv.ensures c.bitxor.ensures c.idx-in-Some.ensures c.idx-in-Some-2.ensures c.put_node.ensures c.put_node-in-Some.ensures
