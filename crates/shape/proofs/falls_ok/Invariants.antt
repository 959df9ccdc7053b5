-- `shape::falls_ok` meets its contract. The loop's invariant: the walks from the nodes before the next end, and no node is open between visits,
-- so a visit that fails shows walks longer than any number of nodes.
-- Assumes nothing.
use Rattle.shape.specs.Read.{kids_by}
use Rattle.shape.proofs.VisitLaws as laws
use Rattle.shape.proofs.falls_ok.Given as goal

abbrev pub invariant-loop-i : goal.invariant-loop-i
invariant-loop-i l = laws.Tried (kids_by l.nodes l.roots) l.nodes.made l.i l.marks
