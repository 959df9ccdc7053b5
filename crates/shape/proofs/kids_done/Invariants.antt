-- `shape::kids_done` meets its contract. The loop's invariant: if `done` still says so, the walks on from the places passed end, since their nodes lie
-- before v or are done.
-- Assumes nothing.
use Rattle.shape.specs.Read.{kids_by}
use Rattle.shape.proofs.VisitLaws as laws
use Rattle.shape.proofs.kids_done.Given as goal

abbrev pub invariant-loop-i : goal.invariant-loop-i
invariant-loop-i l = laws.Ended (kids_by l.nodes l.roots) l.nodes.made (l.first) l.i l.done
