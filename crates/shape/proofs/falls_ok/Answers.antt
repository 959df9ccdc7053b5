-- `shape::falls_ok` meets its contract. The loop's invariant: the walks from the nodes before the next end, and no node is open between visits,
-- so a visit that fails shows walks longer than any number of nodes.
-- Assumes nothing.
use Rattle.layout.proofs.Lists.{all_stop, all_done}
use Rattle.shape.proofs.VisitLaws as laws
use Rattle.shape.proofs.falls_ok.Goals as goal

pub loop-i-init : goal.loop-i-init
loop-i-init c = laws.visits_none _ _

pub returns-then-not-visit : goal.returns-then-not-visit
returns-then-not-visit c =
    let long = laws.visits_not _ _ c.loop-i.invariant c.if-not-visit.true c.visit.ensures in
    let n = c.args.nodes.now.made in
    all_stop _ n c.loop-i.i c.loop-i-test.true long

pub returns : goal.returns
returns c =
    all_done _ c.args.nodes.now.made c.loop-i.i c.loop-i-test.false c.loop-i.invariant.ended
