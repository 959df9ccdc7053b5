-- Every call leaves a sound store sound and its capacities as they are. The stores that lists of calls reach are sound, and no node is deep under a small
-- root. Assumes nothing.
use mathlib.Core.List.{List, [], ◌∷◌}
use Prim.Native.Nat.{ℕ, ◌≤◌}
use Rattle.scope.specs.Limits.{MAX_NODES, MAX_CHILDREN}
use Rattle.scope.specs.Chart.{Env}
use Rattle.scope.specs.Nodes.{Store, opened}
use Rattle.scope.specs.Demand.{Call, make, import, force_kind, unify, read, later, step, next, after}
use Rattle.scope.proofs.Merge.{Shallow}
use Rattle.scope.proofs.SoundLaws.{SoundFacts}
use Rattle.scope.proofs.SoundKept.{Kept, kept_same, opened_facts, opened_shallow, find_mut_kept, unify_kept, carry_kept, restates_kept, force_kept}
use Rattle.scope.proofs.Steps.{maker_cases, import_cases, force_cases, unify_cases, read_cases}
use Rattle.scope.proofs.LaterSteps.{later_cases}

pub next_kept : (e : Env) (s : Store) (c : Call) → SoundFacts e s → Kept e s (next e s c)
next_kept e s c ok = go c
  where
    same : Kept e s s
    same = kept_same ok

    go : (c : Call) → Kept e s (next e s c)
    go (make m) = maker_cases e s ok (λ t. Kept e s t.store) m same (λ s' k. k.kept)
    go (import l ts ps h) = import_cases e s ok (λ t. Kept e s t.store) l ts ps h same (λ k. k.kept)
    go (force_kind t) = force_cases e s ok (λ t. Kept e s t.store) t same (force_kept e s t ok)
    go (unify a b) = unify_cases e s ok (λ o. Kept e s (step s o).store) a b (λ n. same) (unify_kept e s a b ok)
    go (read q) = read_cases e s ok (λ t. Kept e s t.store) q same same (λ t. find_mut_kept e s t ok)
    go (later q) = later_cases e s ok (λ t. Kept e s t.store) q same same (λ l h. carry_kept e s l ok h) (λ ns x. restates_kept e s ns x ok)

-- a list of calls keeps a sound store sound
pub after_sound : (e : Env) (s : Store) (cs : List Call) → SoundFacts e s → SoundFacts e (after e s cs)
unfolding after
after_sound e s [] ok = ok
after_sound e s (c ∷ cs) ok = after_sound e (next e s c) cs (next_kept e s c ok).facts

pub record Reached (e : Env) (s : Store) : Type 0 where
  pub facts : SoundFacts e s
  pub shallow : Shallow s.nodes

pub opened_reached : (e : Env) (n c : ℕ) → n ≤ MAX_NODES → c ≤ MAX_CHILDREN → Reached e (opened n c)
opened_reached e n c hn hc = record { facts = opened_facts e n c hn hc; shallow = opened_shallow e n c }

pub next_reached : (e : Env) (s : Store) (c : Call) → Reached e s → Reached e (next e s c)
next_reached e s c r = let k = next_kept e s c r.facts in record { facts = k.facts; shallow = k.shallow r.shallow }

pub after_reached : (e : Env) (s : Store) (cs : List Call) → Reached e s → Reached e (after e s cs)
unfolding after
after_reached e s [] r = r
after_reached e s (c ∷ cs) r = after_reached e (next e s c) cs (next_reached e s c r)
