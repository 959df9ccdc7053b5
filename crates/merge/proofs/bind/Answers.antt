-- `merge::bind` meets its contract: the test on the two sizes is scope's, and the root that stays takes the kind of the other unless it is the first and has its own.
-- Assumes nothing.
use Rattle.merge.proofs.Laws.{bind_first, bind_known, bind_second}
use Rattle.merge.proofs.bind.Goals as goal

pub returns-then-sa-sb : goal.returns-then-sa-sb
returns-then-sa-sb c =
    bind_second _ _ _ _ _ c.size_at-sb.ensures c.size_at-sa.ensures c.if-sa-sb.true c.take.ensures

pub returns-then-is_some : goal.returns-then-is_some
returns-then-is_some c =
    bind_known _ _ _ _ _ c.size_at-sb.ensures c.size_at-sa.ensures c.if-sa-sb.false c.idx.ensures c.held_at.ensures c.if-is_some.ensures c.hang.ensures

pub returns-else-is_some : goal.returns-else-is_some
returns-else-is_some c =
    bind_first _ _ _ _ _ c.size_at-sb.ensures c.size_at-sa.ensures c.if-sa-sb.false c.idx.ensures c.held_at.ensures c.if-is_some.ensures
    c.take-else-is_some.ensures
