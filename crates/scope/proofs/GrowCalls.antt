-- What every call does to the nodes, one by one and in a list: roots only merge, what is known stays known, and as many nodes are
-- new as `made_by` says. Assumes nothing.
use mathlib.Core.Path.{sym, subst}
use mathlib.Core.List.{List, [], ◌∷◌}
use Prim.Native.Nat.{ℕ}
use lib.ListN.{length}
use Rattle.scope.specs.Chart.{Env}
use Rattle.scope.specs.Nodes.{Node, Store}
use Rattle.scope.specs.Import.{copies}
use Rattle.scope.specs.Calls.{store_of}
use Rattle.scope.specs.Demand.{Maker, Call, Step, step, step_maker, next, after, states_made, if_taken, made_by}
use Rattle.scope.specs.Demand as Demand
use Rattle.scope.proofs.View.{Good, view}
use Rattle.scope.proofs.Grow.{Grow, grow_refl, grow_trans}
use Rattle.scope.proofs.SoundLaws.{SoundFacts}
use Rattle.scope.proofs.Moves.{Moves, moves_none, pushes_moves, import_moves, find_mut_moves, force_moves, restates_moves, unify_moves, carry_moves}
use Rattle.scope.proofs.Steps.{still, maker_cases, import_cases, force_cases, unify_cases, read_cases}
use Rattle.scope.proofs.LaterSteps.{later_cases}
use Rattle.scope.proofs.Reached.{Reached, next_reached}

module _ (e : Env) (s : Store) (facts : SoundFacts e s) where
  -- m nodes more if the call is taken
  abbrev Adds : ℕ → Step → Type 0
  Adds m st = Moves e.texts s.nodes st.store.nodes (if_taken st.taken m)

  -- as many nodes
  abbrev Same : Step → Type 0
  Same st = Moves e.texts s.nodes st.store.nodes 0

  as_found : Same (still s)
  as_found = moves_none facts.nodes.good

  maker_moves : (m : Maker) → Adds (length (states_made e s m)) (step_maker e s m)
  maker_moves m = maker_cases e s facts (Adds (length (states_made e s m))) m as_found
      (λ s' k. subst (λ (ns : List Node). Good (view ns) → Moves e.texts s.nodes ns (length (states_made e s m))) (sym k.nodes)
      (pushes_moves e s facts (states_made e s m)) k.kept.facts.nodes.good)

  call_moves : (c : Call) → Moves e.texts s.nodes (next e s c).nodes (made_by e s c)
  call_moves (Demand.make m) = maker_moves m
  call_moves (Demand.import l ts ps have) = import_cases e s facts (Adds (copies (store_of l).nodes ps ts)) l ts ps have as_found
      (λ i. import_moves e s facts (store_of l).nodes ps ts i.leaves i.kept.facts.nodes.good)
  call_moves (Demand.force_kind t) = force_cases e s facts Same t as_found (force_moves e s facts t)
  call_moves (Demand.unify a b) = unify_cases e s facts (λ o. Same (step s o)) a b (λ n. as_found) (unify_moves e s facts a b)
  call_moves (Demand.read r) = read_cases e s facts Same r as_found as_found (find_mut_moves e s facts)
  call_moves (Demand.later c) = later_cases e s facts Same c as_found as_found (carry_moves e s facts) (restates_moves e s facts)

-- every call
pub next_moves : (e : Env) (s : Store) (c : Call) → Reached e s → Moves e.texts s.nodes (next e s c).nodes (made_by e s c)
next_moves e s c r = call_moves e s r.facts c

pub next_grow : (e : Env) (s : Store) (c : Call) → Reached e s → Grow e.texts (view s.nodes) (view (next e s c).nodes)
next_grow e s c r = (next_moves e s c r).grow

-- and every list of them
pub after_grow : (e : Env) (s : Store) (cs : List Call) → Reached e s → Grow e.texts (view s.nodes) (view (after e s cs).nodes)
unfolding after
after_grow e s [] r = grow_refl r.facts.nodes.good
after_grow e s (c ∷ cs) r =
    let r' = next_reached e s c r in
    grow_trans r'.facts.nodes.good (next_grow e s c r) (after_grow e (next e s c) cs r')
