-- The nodes that a list of calls leaves: those that were there, and those that its calls made. Root sizes add up to them. Assumes nothing.
use mathlib.Core.Path.{◌≡◌, ◌∙◌}
use mathlib.Core.List.{List, [], ◌∷◌}
use Prim.Native.Nat.{ℕ, ◌+◌, ◌≤◌}
use native.Mathlib.Omega.{arith}
use lib.ListN.{length}
use Rattle.scope.specs.Limits.{MAX_NODES, MAX_CHILDREN}
use Rattle.scope.specs.Chart.{Env}
use Rattle.scope.specs.Nodes.{Store, opened}
use Rattle.scope.specs.Demand.{Call, next, after, nodes_made, sizes}
use Rattle.scope.proofs.Sizes.{sizes_length}
use Rattle.scope.proofs.Reached.{Reached, opened_reached, next_reached, after_reached}
use Rattle.scope.proofs.GrowCalls.{next_moves}

pub after_length : (e : Env) (s : Store) (cs : List Call) → Reached e s
    → length (after e s cs).nodes ≡ length s.nodes + nodes_made e s cs
unfolding after nodes_made
after_length e s [] r = omega arith
after_length e s (c ∷ cs) r = omega (arith, (next_moves e s c r).len, after_length e (next e s c) cs (next_reached e s c r))

-- root sizes add up to the nodes made
pub sizes_made : (e : Env) (n c : ℕ) → n ≤ MAX_NODES → c ≤ MAX_CHILDREN → (cs : List Call)
    → sizes (after e (opened n c) cs).nodes ≡ nodes_made e (opened n c) cs
sizes_made e n c hn hc cs =
    let r = opened_reached e n c hn hc in
    let ok = (after_reached e (opened n c) cs r).facts.nodes in
    sizes_length (after e (opened n c) cs).nodes ok.forest ok.sized ∙ omega (arith, after_length e (opened n c) cs r)
