-- `needs::count` meets its contract. The measure is the depth. A root that is not counted is counted before its children are walked from; the loop's
-- invariant: what is left of them gives what all of them give, and the finder stays.
-- Assumes nothing.
use Prim.Native.Nat.{◌-◌}
use Rattle.roots.specs.StaysLent.{StaysLent}
use Rattle.needs.proofs.CountLaws.{Turn}
use Rattle.needs.proofs.RootLaws.{kids_in}
use Rattle.needs.proofs.+count.Given as goal

abbrev pub decreases-count : goal.decreases-count
decreases-count l = l.depth

abbrev pub invariant-loop-j : goal.invariant-loop-j
invariant-loop-j l =
    let nodes = l.fn.finder.nodes.now in
    Turn nodes.words.now nodes.kids.now nodes.made l.params (l.depth - 1) (kids_in nodes.kids.now l.first l.kids) l.initial.marks l.initial.all l.marks l.all l.j
    × StaysLent l.fn.finder l.finder
