-- `merge::settle` meets its contract: Success merges with the states that the roots have, and the other answers leave the nodes.
-- Assumes nothing.
use Rattle.merge.proofs.Laws.{settle_merges, settle_stays}
use Rattle.merge.proofs.settle.Goals as goal

pub returns-then-eq : goal.returns-then-eq
returns-then-eq c = settle_merges _ _ _ _ _ c.args.r c.if-eq.ensures c.unite.ensures

pub returns-else-eq : goal.returns-else-eq
returns-else-eq c = settle_stays c.args.r c.if-eq.ensures
