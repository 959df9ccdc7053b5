-- A call on listed types that only reads: its tests turn it back, or its answer is what its definition reads of the store that the slices hold. A call
-- that no test turns back has a sound store with clean nodes, as many as the header says, and its types are among them.
-- Assumes nothing.
use mathlib.Core.Path.{◌≡◌, ap, sym, ◌∙◌}
use mathlib.Core.Bool.{true}
use mathlib.Core.Option.{none, some}
use mathlib.Core.List.{List, [], ◌∷◌}
use Prim.Native.Nat.{ℕ}
use borrow.Author.Tests.{not-false}
use Rattle.scope.specs.Base.{all}
use Rattle.scope.specs.Chart.{Env}
use Rattle.scope.specs.Types.{Ty}
use Rattle.scope.specs.Nodes.{Node, Store}
use Rattle.scope.specs.Sound.{in_store}
use Rattle.scope.specs.Calls.{refused, done, first_broken, store_of, lent_tests, outside, read_call}
use Rattle.scope.proofs.SoundLaws.{SoundFacts}
use Rattle.layout.specs.Words.{nodes_made, children_made, decode, store_in, lent_of}
use Rattle.layout.specs.Meaning.{Clean, Linked, header_in}
use Rattle.layout.specs.declared.Header.{Header}
use Rattle.layout.proofs.StoreLaws.{clean_nodes}
use Rattle.store.proofs.Laws.{store_nodes}
use Rattle.promise.specs.Promise.{types_tests, TypesTested}
use Rattle.refusals.proofs.Laws.{judged_refused, passed_next, test_passed}
use Rattle.promise.proofs.Laws.{call_passed, lent_clean_words, lent_store, lent_facts, lent_linked}
use Rattle.promise.proofs.CallLaws.{call_outcome}

module _ {e : Env} {h ws ks : List ℕ} {ts : List Ty} where
  pub read_refused : {A : Type 0} {n : ℕ} → TypesTested e h ws ks ts (some n) → (a : A) → read_call e (lent_of h ws ks) ts a ≡ refused n
  read_refused {n} q a = judged_refused (types_tests e (lent_of h ws ks) ts) (done a (store_of (lent_of h ws ks))) n q.first

  module _ (q : TypesTested e h ws ks ts none) where
    pub read_passed : first_broken (lent_tests e (lent_of h ws ks)) ≡ none
    read_passed = call_passed e h ws ks (outside (store_of (lent_of h ws ks)) ts ∷ []) q.first

    pub read_done : {A : Type 0} (f : Store → A)
        → read_call e (lent_of h ws ks) ts (f (store_of (lent_of h ws ks))) ≡ done (f (store_in h ws ks)) (store_in h ws ks)
    read_done f = call_outcome e h ws ks (λ s. outside s ts ∷ []) (λ s. done (f s) s) q.first

    pub read_facts : SoundFacts e (store_in h ws ks)
    read_facts = lent_facts e h ws ks read_passed

    pub read_inside : all (in_store (store_in h ws ks).nodes) ts ≡ true
    read_inside =
        let o = outside (store_of (lent_of h ws ks)) ts in
        let p = passed_next (lent_tests e (lent_of h ws ks)) (o ∷ []) q.first in
        ap (λ (s : Store). all (in_store s.nodes) ts) (sym (lent_store e h ws ks read_passed))
        ∙ not-false (all (in_store (store_of (lent_of h ws ks)).nodes) ts) (test_passed o.0 o.1 [] p)

    -- of the nodes alone

    module _ {x : Header} (g : x ≡ header_in h) where
      made : x.nodes ≡ nodes_made h
      made = ap (λ (y : Header). y.nodes) g

      pub nodes_read : (store_in h ws ks).nodes ≡ decode ws ks x.nodes
      nodes_read = store_nodes h ws ks ∙ ap (decode ws ks) (sym made)

      pub read_clean : Clean ws ks (children_made h) x.nodes
      read_clean = rw made (clean_nodes h ws ks (lent_clean_words e h ws ks read_passed))

      pub read_linked : Linked ws x.nodes
      read_linked = lent_linked e h ws ks read_passed x g

      pub read_nodes : {A : Type 0} (f : List Node → A) {a : A} → a ≡ f (decode ws ks x.nodes)
          → read_call e (lent_of h ws ks) ts (f (store_of (lent_of h ws ks)).nodes) ≡ done a (store_in h ws ks)
      read_nodes f w =
          read_done (λ s. f s.nodes)
          ∙ ap (λ a. done a (store_in h ws ks)) (ap f nodes_read ∙ sym w)
