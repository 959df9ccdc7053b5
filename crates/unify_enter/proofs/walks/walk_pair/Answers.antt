-- `unify_enter::walks::walk_pair` meets its contract: two nodes are `walk_on`'s; of two types of one node that agree, of one nil and of a marked root nothing is to be done, and
-- anything else is asked of the memory, and then of a walk.
-- Assumes nothing.
use Rattle.unify_enter.proofs.walks.Laws.{walk_known, walk_told, own_asks, walk_own}
use Rattle.unify_enter.proofs.walks.SmallLaws.{small_walks, small_walk_asks, small_walk_not}
use Rattle.unify_enter.proofs.walks.walk_pair.Goals as goal

pub returns-then-small : goal.returns-then-small
returns-then-small c = small_walks c.requires c.small.ensures c.if-small.true

pub returns-then-knows : goal.returns-then-knows
returns-then-knows c =
    small_walk_not c.small.ensures c.if-small.false
    (walk_known (small_walk_asks c.requires c.small.ensures c.if-small.false) c.idx.ensures c.idx-2.ensures c.if-ne.ensures c.idx-3.ensures
    c.knows.ensures c.if-knows.true)

pub returns-in-Some : goal.returns-in-Some
returns-in-Some c =
    small_walk_not c.small.ensures c.if-small.false
    (walk_told (small_walk_asks c.requires c.small.ensures c.if-small.false) c.look.ensures c.in-Some.is)

pub ask-requires : goal.ask-requires
ask-requires c = own_asks (small_walk_asks c.requires c.small.ensures c.if-small.false)

pub returns : goal.returns
returns c =
    small_walk_not c.small.ensures c.if-small.false
    (walk_own (small_walk_asks c.requires c.small.ensures c.if-small.false) c.ask.ensures c.idx.ensures c.idx-2.ensures c.if-ne.ensures c.inv.ensures
    c.inv-2.ensures c.if-eq.ensures c.from-r.ensures c.walked.ensures)
