-- `shape::find_roots` meets its contract. The loop's invariant: the nodes before the next have their roots, since a root that is known stays known.
-- A root is its own. Who has a root comes to it within n nodes, so a climb that fails shows a parent cycle.
-- Assumes nothing.
use Rattle.shape.specs.Read.{ups_by}
use Rattle.shape.proofs.Laws as laws
use Rattle.shape.proofs.find_roots.Given as goal

abbrev pub invariant-loop-i : goal.invariant-loop-i
invariant-loop-i l = laws.Upto (ups_by l.nodes) l.nodes.made l.i l.roots
