-- A call that 2, 8 and tests of its own may turn back, and that is done on the store that is lent: from what its tests tell, and from what its core does
-- to the store that the slices hold, to what every call promises.
-- Assumes nothing.
use mathlib.Core.Path.{◌≡◌, ap, ◌∙◌}
use mathlib.Core.Bool.{Bool}
use mathlib.Core.List.{List, ◌++◌}
use mathlib.Core.Option.{none, some}
use Prim.Native.Nat.{ℕ}
use Rattle.scope.specs.Chart.{Env}
use Rattle.scope.specs.Nodes.{Store}
use Rattle.scope.specs.Calls.{Outcome, done, judged, first_broken, store_of, lent_tests}
use Rattle.layout.specs.Words.{store_in, lent_of}
use Rattle.store.specs.Holds.{Became}
use Rattle.promise.specs.Promise.{value, refusal, Promised}
use Rattle.refusals.proofs.Laws.{judged_refused, judged_done}
use Rattle.promise.proofs.Laws.{lent_store, call_passed, promised_back, promised_done}

module _ {A : Type 0} (e : Env) (h ws ks : List ℕ) (us : Store → List (Bool × ℕ)) (f : Store → Outcome A) where
  abbrev tests : List (Bool × ℕ)
  tests = lent_tests e (lent_of h ws ks) ++ us (store_of (lent_of h ws ks))

  abbrev call : Outcome A
  call = judged tests (f (store_of (lent_of h ws ks)))

  pub call_back : (n : ℕ) → first_broken tests ≡ some n → Promised call (refusal n) h ws ks h ws ks
  call_back n q = promised_back (judged_refused tests (f (store_of (lent_of h ws ks))) n q)

  module _ (q : first_broken tests ≡ none) where
    -- what is done to the lent store is done to the one that the slices hold
    pub call_outcome : call ≡ f (store_in h ws ks)
    call_outcome =
        judged_done tests (f (store_of (lent_of h ws ks))) q
        ∙ ap f (lent_store e h ws ks (call_passed e h ws ks (us (store_of (lent_of h ws ks))) q))

    pub call_done : {a : A} {s : Store} {h' ws' ks' : List ℕ} → f (store_in h ws ks) ≡ done a s → Became h ws ks h' ws' ks' s
        → Promised call (value a) h ws ks h' ws' ks'
    call_done p b = promised_done (call_outcome ∙ p) b
