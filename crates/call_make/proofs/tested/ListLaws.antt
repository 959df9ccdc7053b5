-- New variables are the nodes behind the others, in a row, so their words say them again; at the front of a lent list they are what the call replies. One
-- law for each way out of `new_vars`.
-- Assumes nothing.
use mathlib.Core.Path.{◌≡◌, refl, ap, sym, ◌∙◌}
use mathlib.Core.Bool.{Bool, false}
use mathlib.Core.List.{List, [], ◌∷◌, ◌++◌, map, map-map}
use mathlib.Core.Option.{none, some}
use Prim.Native.Nat.{ℕ, zero, suc, ◌+◌, ◌≤◌, ◌<◌}
use native.Mathlib.Omega.{arith}
use lib.ListN.{length, take, drop, length-append, length-map}
use lib.Seq.{take_at, drop_at}
use borrow.Author.Tests.{lt-ltb, le-ltb}
use Rattle.std.specs.Prelude.{Ok, Err}
use Rattle.scope.specs.Base.{from}
use Rattle.scope.specs.Limits.{MAX_NODES}
use Rattle.scope.specs.Chart.{Env}
use Rattle.scope.specs.Types.{Ty, ty, ty_of, word_of}
use Rattle.scope.specs.Nodes.{Store}
use Rattle.scope.specs.Sound.{Lent}
use Rattle.scope.specs.Refusals.{SHORT}
use Rattle.scope.specs.Make.{MadeAll, new_var, new_vars}
use Rattle.scope.specs.Calls.{Outcome, done, first_broken, store_of, lent_tests, room_tests, short_for, new_vars_call}
use Rattle.types.proofs.Laws.{ty_word}
use Rattle.layout.specs.Words.{store_in, lent_of}
use Rattle.layout.proofs.Lists.{length_from, same_from}
use Rattle.store.specs.Holds.{Ready}
use Rattle.make.specs.Made.{MadeAllIs}
use Rattle.promise.specs.Lists.{ListPromised}
use Rattle.refusals.specs.declared.Refusal.{Refusal}
use Rattle.refusals.specs.declared.Refusal.TheVariants.{Short}
use Rattle.refusals.specs.Codes.{number}
use Rattle.refusals.proofs.Laws.{broken_first, broken_next, test_stands, test_falls}
use Rattle.promise.proofs.CallLaws.{call_back, call_done}
use Rattle.tested_lean.specs.Room.{RoomTested}
use Rattle.tested_lean.proofs.MakerLaws.{maker_ready}

-- the types of n variables

vars_row : (s : Store) (p n : ℕ) → (new_vars s p n).types ≡ map (ty false) (from (length s.nodes) n)
unfolding new_vars new_var
vars_row s p zero = refl
vars_row s p (suc n) =
    let m : length (new_var s p).store.nodes ≡ suc (length s.nodes) = rw length-append (omega arith) in
    ap (λ (l : List Ty). ty false (length s.nodes) ∷ l) (vars_row (new_var s p).store p n ∙ ap (λ (i : ℕ). map (ty false) (from i n)) m)

-- a row of types is read back from its words
row_back : (i n : ℕ) → i + n ≤ MAX_NODES → map ty_of (map word_of (map (ty false) (from i n))) ≡ map (ty false) (from i n)
row_back i n l =
    ap (map ty_of) (map-map word_of (ty false) (from i n))
    ∙ (map-map ty_of (λ (j : ℕ). word_of (ty false j)) (from i n)
    ∙ same_from (λ (j : ℕ). ty_of (word_of (ty false j))) (ty false) i n (λ j a b. ty_word (ty false j) (omega arith)))

module _ {h ws ks h' ws' ks' out out' : List ℕ} (p n : ℕ) (r : Ready h ws ks n 0) (o : MadeAllIs h ws ks h' ws' ks' out out' (new_vars (store_in h ws ks) p n)) where
  abbrev types : List Ty
  types = (new_vars (store_in h ws ks) p n).types

  types_long : length types ≡ n
  types_long = ap length (vars_row (store_in h ws ks) p n) ∙ length_from (ty false) (length (store_in h ws ks).nodes) n

  words_long : length (map word_of types) ≡ n
  words_long = length-map types word_of ∙ types_long

  front : map ty_of (take n out') ≡ types
  front =
      ap (λ (l : List ℕ). map ty_of (take n l)) o.types
      ∙ (ap (map ty_of) (take_at (map word_of types) (drop (length types) out) n words_long)
      ∙ rw (vars_row (store_in h ws ks) p n) (row_back (length (store_in h ws ks).nodes) n (omega (arith, r.room.nodes, r.room.node_limit))))

  pub vars_rest : drop n out' ≡ drop n out
  vars_rest =
      ap (drop n) o.types
      ∙ (drop_at (map word_of types) (drop (length types) out) n words_long ∙ ap (λ (i : ℕ). drop i out) types_long)

-- the three ways out

abbrev tests : ℕ → List ℕ → Store → List (Bool × ℕ)
tests n out s = room_tests s n 0 ++ (short_for (length out) n ∷ [])

abbrev work : ℕ → ℕ → Store → Outcome (List Ty)
work p n s = let m : MadeAll = new_vars s p n in done m.types m.store

abbrev rooms : Env → Lent → ℕ → List (Bool × ℕ)
rooms e l n = lent_tests e l ++ room_tests (store_of l) n 0

module _ (e : Env) (h ws ks : List ℕ) (p n : ℕ) (out : List ℕ) where
  refused_by : (r : Refusal) → first_broken (lent_tests e (lent_of h ws ks) ++ tests n out (store_of (lent_of h ws ks))) ≡ some (number r)
      → ListPromised (new_vars_call e (lent_of h ws ks) p n (length out)) (Err r) n h ws ks h ws ks out out
  unfolding new_vars_call
  refused_by r q = record { promised = call_back e h ws ks (tests n out) (work p n) (number r) q; rest = refl; kept = λ y. refl }

module _ {e : Env} {h ws ks : List ℕ} (p n : ℕ) (out : List ℕ) where
  pub vars_back : (r : Refusal) → RoomTested e h ws ks (λ _. n) (some (number r))
      → ListPromised (new_vars_call e (lent_of h ws ks) p n (length out)) (Err r) n h ws ks h ws ks out out
  vars_back r q = refused_by e h ws ks p n out r (broken_first (rooms e (lent_of h ws ks) n) (short_for (length out) n ∷ []) (number r) q.first)

  module _ (q : RoomTested e h ws ks (λ _. n) none) where
    last_test : first_broken (lent_tests e (lent_of h ws ks) ++ tests n out (store_of (lent_of h ws ks))) ≡ first_broken (short_for (length out) n ∷ [])
    last_test = broken_next (rooms e (lent_of h ws ks) n) (short_for (length out) n ∷ []) q.first

    pub vars_short : length out < n → ListPromised (new_vars_call e (lent_of h ws ks) p n (length out)) (Err Short) n h ws ks h ws ks out out
    vars_short l = refused_by e h ws ks p n out Short (last_test ∙ test_stands SHORT [] (lt-ltb (length out) n l))

    pub vars_ready : Ready h ws ks n 0
    vars_ready = maker_ready q

    pub vars_done : {h' ws' ks' out' : List ℕ} → n ≤ length out → MadeAllIs h ws ks h' ws' ks' out out' (new_vars (store_in h ws ks) p n)
        → ListPromised (new_vars_call e (lent_of h ws ks) p n (length out)) (Ok tt) n h ws ks h' ws' ks' out out'
    unfolding new_vars_call
    vars_done l o = record {
      promised = call_done e h ws ks (tests n out) (work p n) (last_test ∙ test_falls SHORT [] (le-ltb (length out) n l))
          (ap (λ (ts : List Ty). done ts (new_vars (store_in h ws ks) p n).store) (sym (front p n vars_ready o))) o.store;
      rest = vars_rest p n vars_ready o;
      kept = λ y. let v : ◌≡◌ {A = ℕ} 0 1 = cc in absurd (omega arith);
    }
