-- `shape::visit` meets its contract, by the number of nodes that no visit came to: v is one of them before it is marked, and none after.
-- The loop's invariant: the walks on from the places passed end, and no node is open that was not open where the loop began.
-- Assumes nothing.
use Rattle.shape.specs.Read.{kids_by}
use Rattle.shape.specs.Asks.{fresh}
use Rattle.shape.proofs.VisitLaws as laws
use Rattle.shape.proofs.+visit.Given as goal

abbrev pub decreases-visit : goal.decreases-visit
decreases-visit l = fresh l.nodes.now.made l.marks.now

abbrev pub invariant-loop-i : goal.invariant-loop-i
invariant-loop-i l = laws.Passed (kids_by l.nodes l.roots) l.nodes.made l.v.0 l.i l.initial.marks l.marks
