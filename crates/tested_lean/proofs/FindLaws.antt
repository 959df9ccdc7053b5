-- One law for each way out of `find_mut`: its tests turn it back, or words whose links alone were changed say a store again, with the nodes that the
-- definition leaves.
-- Assumes nothing.
use mathlib.Core.Path.{◌≡◌, refl, ap, sym, ◌∙◌}
use mathlib.Core.Bool.{Bool}
use mathlib.Core.List.{List, [], ◌∷◌}
use mathlib.Core.Option.{none, some}
use Prim.Native.Nat.{ℕ}
use Rattle.scope.specs.Chart.{Env}
use Rattle.scope.specs.Types.{Ty, ty_of}
use Rattle.scope.specs.Nodes.{Node, Store, find, find_mut, with_nodes}
use Rattle.scope.specs.Calls.{Outcome, done, outside, find_mut_call}
use Rattle.types.specs.declared.«Type».{«Type»}
use Rattle.layout.specs.Words.{nodes_made, children_made, decode, store_in, lent_of}
use Rattle.layout.specs.Meaning.{Clean, header_in}
use Rattle.layout.specs.declared.Header.{Header}
use Rattle.layout.proofs.StoreLaws.{clean_nodes}
use Rattle.store.specs.Holds.{Holds, Became}
use Rattle.store.proofs.Laws.{store_nodes, holds_with, beyond_with}
use Rattle.roots.specs.Found.{FoundMut}
use Rattle.promise.specs.Promise.{value, refusal, TypesTested, Promised}
use Rattle.promise.proofs.Laws.{lent_clean_words}
use Rattle.promise.proofs.CallLaws.{call_back, call_done}
use Rattle.promise.proofs.ReadLaws.{read_passed}

-- its tests, and what it does to a store

abbrev tests : Ty → Store → List (Bool × ℕ)
tests t s = outside s (t ∷ []) ∷ []

abbrev work : Ty → Store → Outcome Ty
work t s = done (find s.nodes t) (with_nodes s (find_mut s.nodes t))

module _ {e : Env} {h ws ks : List ℕ} (t : «Type») where
  pub mut_refused : {n : ℕ} → TypesTested e h ws ks (ty_of t.0 ∷ []) (some n) → Promised (find_mut_call e (lent_of h ws ks) (ty_of t.0)) (refusal n) h ws ks h ws ks
  unfolding find_mut_call
  mut_refused {n} q = call_back e h ws ks (tests (ty_of t.0)) (work (ty_of t.0)) n q.first

  module _ (q : TypesTested e h ws ks (ty_of t.0 ∷ []) none) where
    abbrev T : Ty
    T = ty_of t.0

    abbrev S : Store
    S = store_in h ws ks

    held : Holds h ws ks S
    held = record { clean = lent_clean_words e h ws ks (read_passed q); is = refl }

    relinked : (ws' : List ℕ) (r : ℕ) → FoundMut ws (nodes_made h) ws' t.0 r → Became h ws ks h ws' ks (with_nodes S (decode ws' ks (nodes_made h)))
    unfolding store_in
    relinked ws' r f =
        let c : Clean ws' ks (children_made h) (nodes_made h) = f.words.clean ks (children_made h) (clean_nodes h ws ks held.clean) in
        record {
          holds = holds_with held ws' f.words.long f.words.tail c;
          beyond = beyond_with held ws' f.words.long f.words.tail c;
        }

    pub mut_answer : {x : Header} {ws' : List ℕ} {r : «Type»} → x ≡ header_in h → FoundMut ws x.nodes ws' t.0 r.0
        → Promised (find_mut_call e (lent_of h ws ks) T) (value (ty_of r.0)) h ws ks h ws' ks
    unfolding find_mut_call
    mut_answer {ws' = ws'} {r = r} g f =
        let f' : FoundMut ws (nodes_made h) ws' t.0 r.0 = rw (ap (λ (y : Header). y.nodes) g) at f in
        let w : ty_of r.0 ≡ find S.nodes T = f'.root ks ∙ ap (λ (l : List Node). find l T) (sym (store_nodes h ws ks)) in
        let d : decode ws' ks (nodes_made h) ≡ find_mut S.nodes T = f'.nodes ks ∙ ap (λ (l : List Node). find_mut l T) (sym (store_nodes h ws ks)) in
        call_done e h ws ks (tests T) (work T) q.first (rw (w, d)) (relinked ws' r.0 f')
