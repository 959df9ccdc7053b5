-- `related::mark_below` meets its contract. The measure is the depth. The loop's invariant: what is left of the children gives what all of them give, the
-- finder stays, nodes that have been told have marked roots, and what the skips pass over are slots of marked roots.
-- Assumes nothing.
use mathlib.Core.Path.{◌≡◌}
use Prim.Native.Nat.{◌-◌}
use lib.ListN.{length}
use Rattle.scope.specs.Force.{related_f}
use Rattle.layout.specs.Lent.{nodes_by}
use Rattle.roots.specs.StaysLent.{StaysLent}
use Rattle.skips.specs.Table.{SLOTS}
use Rattle.related.specs.Tables.{KeepsIn}
use Rattle.related.proofs.TurnLaws.{Turn}
use Prim.Native.Nat.{◌<◌}
use Rattle.related.proofs.+mark_below.Given as goal

abbrev pub decreases-mark_below : goal.decreases-mark_below
decreases-mark_below l = l.depth

abbrev pub invariant-loop-s : goal.invariant-loop-s
invariant-loop-s l =
    let nodes = l.fn.finder.nodes.now in
    Turn (related_f l.depth (nodes_by nodes)) nodes.kids.now l.initial.s l.end l.initial.marks l.marks l.s
    × KeepsIn nodes l.marks l.seen l.skip × StaysLent l.fn.finder l.finder
    × (length l.seen ≡ length l.initial.seen) × (length l.skip ≡ length l.initial.skip) × (l.end < SLOTS)

abbrev pub decreases-loop-s : goal.decreases-loop-s
decreases-loop-s l = l.end - l.s
