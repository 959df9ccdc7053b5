-- `force::finish_chosen` meets its contract. The loop's invariant: of the first i nodes those are finished that are chosen, the others are as they were,
-- and the slices hold that store.
-- Assumes nothing.
use mathlib.Core.List.{List}
use mathlib.Core.Path.{◌≡◌}
use Rattle.scope.specs.Nodes.{Node}
use Rattle.layout.specs.Words.{nodes_made, store_in}
use Rattle.force.specs.Finish.{Finishes}
use Rattle.force.proofs.FinishLaws.{Turned, Roomy}
use Rattle.force.proofs.finish_chosen.Given as goal

abbrev pub invariant-loop-i : goal.invariant-loop-i
invariant-loop-i g l = (l.n ≡ nodes_made l.h)
    × (Roomy l.n l.initial.ws l.ws
    × ((f : List Node → List Node) → Finishes (goal.F-post g l.is_chosen) f → Turned l.h l.initial.ws l.ks (f (store_in l.h l.initial.ws l.ks).nodes) l.i l.ws))
