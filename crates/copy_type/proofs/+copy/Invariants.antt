-- `copy_type::copy` meets its contract. The measure is the depth. A root that has no copy is begun before its children are copied; the loop's invariant is
-- `Filling`: what is left of them gives what all of them give, and those done stand in the run reserved for them.
-- Assumes nothing.
use Prim.Native.Nat.{◌-◌}
use Rattle.roots.specs.StaysLent.{StaysLent}
use Rattle.copy_parts.specs.Places.{params_in}
use Rattle.copy_type.proofs.FillLaws.{Filling}
use Rattle.copy_type.proofs.+copy.Given as goal

abbrev pub decreases-copy : goal.decreases-copy
decreases-copy l = l.depth

abbrev pub invariant-loop-j : goal.invariant-loop-j
invariant-loop-j l =
    let nodes = l.fn.finder.nodes.now in
    Filling nodes.words.now nodes.kids.now nodes.made (params_in l.params) (l.depth - 1)
    l.first l.count l.from l.initial.table l.initial.h l.initial.ws l.initial.ks l.table l.h l.ws l.ks l.j
    × StaysLent l.fn.finder l.finder
