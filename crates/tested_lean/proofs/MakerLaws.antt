-- The makers: a call whose tests are 2, 8 and room for so many nodes, which may depend on the store. Once they are passed the slices are ready, and what
-- the core makes is what is promised.
-- Assumes nothing.
use mathlib.Core.Path.{◌≡◌, ap, sym, ◌∙◌}
use mathlib.Core.Bool.{Bool}
use mathlib.Core.List.{List, ◌++◌}
use mathlib.Core.Option.{Option, none, some}
use Prim.Native.Nat.{ℕ}
use Rattle.scope.specs.Chart.{Env}
use Rattle.scope.specs.Types.{Ty, ty_of}
use Rattle.scope.specs.Nodes.{Store}
use Rattle.scope.specs.Sound.{Lent}
use Rattle.scope.specs.Make.{Made}
use Rattle.scope.specs.Calls.{Outcome, judged, first_broken, store_of, lent_tests, room_tests, nodes_for, made_type}
use Rattle.types.specs.declared.«Type».{«Type»}
use Rattle.layout.specs.Words.{store_in, lent_of}
use Rattle.store.specs.Holds.{Ready}
use Rattle.make.specs.Made.{MadeIs}
use Rattle.make.proofs.MakeLaws.{made_done}
use Rattle.promise.specs.Promise.{value, refusal, Promised, Tested}
use Rattle.refusals.proofs.Laws.{passed_next}
use Rattle.promise.proofs.Laws.{call_passed, lent_store, tested_next}
use Rattle.promise.proofs.CallLaws.{call_back, call_done}
use Rattle.promise.proofs.RoomLaws.{lent_ready}
use Rattle.tested_lean.specs.Room.{RoomTested}

-- what `room` says for a nodes, by the header alone
abbrev pub RoomFor : List ℕ → ℕ → Option ℕ → Type 0
RoomFor h a o = (ws ks : List ℕ) → first_broken (room_tests (store_in h ws ks) a 0) ≡ o

-- room is asked of a tested store
pub for_room : {e : Env} {h ws ks : List ℕ} {o : Option ℕ} (a : ℕ) → Tested e h ws ks → RoomFor h a o → RoomTested e h ws ks (λ _. a) o
for_room {ws = ws} {ks = ks} a q room = record { first = tested_next q (λ s. room_tests s a 0) ∙ room ws ks }

-- the makers

abbrev tests : (Store → ℕ) → Store → List (Bool × ℕ)
tests need s = room_tests s (need s) 0

abbrev call : Env → Lent → (Store → ℕ) → (Store → Made) → Outcome Ty
call e l need f = judged (lent_tests e l ++ tests need (store_of l)) (made_type (f (store_of l)))

module _ {e : Env} {h ws ks : List ℕ} {need : Store → ℕ} where
  pub maker_ready : RoomTested e h ws ks need none → Ready h ws ks (need (store_in h ws ks)) 0
  maker_ready q =
      let l : Store = store_of (lent_of h ws ks) in
      let p = call_passed e h ws ks (tests need l) q.first in
      rw (lent_store e h ws ks p) at (lent_ready e h ws ks p (need l) 0 (passed_next (lent_tests e (lent_of h ws ks)) (tests need l) q.first))

  pub maker_back : {n : ℕ} → RoomTested e h ws ks need (some n) → (f : Store → Made) → Promised (call e (lent_of h ws ks) need f) (refusal n) h ws ks h ws ks
  maker_back {n} q f = call_back e h ws ks (tests need) (λ s. made_type (f s)) n q.first

  pub maker_done : RoomTested e h ws ks need none → (f : Store → Made) → {h' ws' ks' : List ℕ} {t : «Type»} → MadeIs h ws ks h' ws' ks' t (f (store_in h ws ks))
      → Promised (call e (lent_of h ws ks) need f) (value (ty_of t.0)) h ws ks h' ws' ks'
  maker_done q f o = call_done e h ws ks (tests need) (λ s. made_type (f s)) q.first (made_done o) o.store

-- a type that is made once: `which` of a store
pub once_tested : {e : Env} {h ws ks : List ℕ} {m : ℕ} {o : Option ℕ} (which : Store → Option Ty) → m ≡ nodes_for (which (store_in h ws ks)) → Tested e h ws ks → RoomFor h m o
    → RoomTested e h ws ks (λ s. nodes_for (which s)) o
once_tested {h = h} {ws = ws} {ks = ks} which p q room = record {
  first = tested_next q (λ s. room_tests s (nodes_for (which s)) 0) ∙ (ap (λ (y : ℕ). first_broken (room_tests (store_in h ws ks) y 0)) (sym p) ∙ room ws ks);
}
