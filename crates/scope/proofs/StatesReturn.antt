-- A return leaves the store and the ledger that were named, whatever came between and left the name: its place holds the state and its ledger is saved
-- under it all the while. Assumes nothing.
use mathlib.Core.Path.{◌≡◌, refl, sym, ap, ◌∙◌}
use mathlib.Core.List.{List, [], ◌∷◌, ◌++◌}
use mathlib.Core.Bool.{true, false}
use mathlib.Core.Option.{none, some}
use mathlib.Core.Logic.{◌≢◌}
use Prim.Native.Nat.{ℕ}
use lib.ListN.{set}
use borrow.Author.Tests.{not-true}
use Rattle.scope.specs.Base.{is_some, all}
use Rattle.scope.specs.Names.{eq_bytes}
use Rattle.scope.specs.Chart.{Env}
use Rattle.scope.specs.Nodes.{Store}
use Rattle.scope.specs.Calls.{Outcome}
use Rattle.scope.specs.States.{Named, Place, Book, under, place_where, held_store, keep_reports}
use Rattle.scope.specs.Demand.{given}
use Rattle.scope.specs.StatesDemand.{Naming, StateCall, call, naming, name, return_to, drop, reset, Desk, outcome_on, left, next_desk, after_desk, Ledger, Ledgers, saved_under}
use Rattle.scope.specs.StatesDemand.{turned_by, next_ledgers, after_ledgers, leaves, up_to_return, ReturnsAsNamed}
use Rattle.scope.proofs.TestLaws.{tf, and_left, and_right}
use Rattle.scope.proofs.NameLaws.{eq_bytes_refl, bytes_eq}
use Rattle.scope.proofs.PlaceLaws.{place_at, For, set_other, set_found}
use Rattle.scope.proofs.BookLaws.{name_cases, return_cases, drop_cases}
use Rattle.scope.proofs.StatesHalf.{saved_forgotten}

-- the state that was named, and its ledger
abbrev state : List ℕ → Store → Place
state n s = some (record { name = n; store = s })

record Remains (n : List ℕ) (s : Store) (l : Ledger) (d : Desk) (g : Ledgers) : Type 0 where
  place : place_at d.book.places (place_where (under n) d.book.places) ≡ state n s
  saved : saved_under n g.saved ≡ some l

-- a place that is free or held under another name
under_other : (n m : List ℕ) (x : Place) → eq_bytes m n ≡ false → ((h : Named) → x ≡ some h → h.name ≡ m) → under n x ≡ false
under_other n m none e own = refl
under_other n m (some h) e own = ap (λ (k : List ℕ). eq_bytes k n) (own h refl) ∙ e

-- the naming
remains_first : (e : Env) (d : Desk) (g : Ledgers) (n : List ℕ) → is_some (given (outcome_on e d (name n))) ≡ true
    → Remains n d.store g.present (next_desk e d (naming (name n))) (next_ledgers e d g (naming (name n)))
remains_first e d g n = name_cases e d.store d.book
    (λ o. is_some (given o) ≡ true → Remains n d.store g.present (left d o) (turned_by g (name n) o)) n (λ k t. tf (sym t))
    (λ t w f u. record {
      place = set_found n d.book.places _ (state n d.store) f (eq_bytes_refl n);
      saved = rw (eq_bytes_refl n) refl;
    })

-- the calls between
module _ (e : Env) (n : List ℕ) (s : Store) (l : Ledger) (d : Desk) (g : Ledgers) (ok : Remains n s l d g) where
  abbrev Left : Naming → Outcome Book → Type 0
  Left x o = Remains n s l (left d o) (turned_by g x o)

  placed : (m : List ℕ) (i : ℕ) (x : Place) → For m d.book.places i → eq_bytes m n ≡ false → under n x ≡ false
      → place_at (set d.book.places i x) (place_where (under n) (set d.book.places i x)) ≡ state n s
  placed m i x f q u = set_other n d.book.places i x (under_other n m (place_at d.book.places i) q f.own) u ∙ ok.place

  remains_naming : (x : Naming) → leaves n (naming x) ≡ true → Left x (outcome_on e d x)
  remains_naming (name m) h =
      let q = not-true (eq_bytes m n) h in
      name_cases e d.store d.book (Left (name m)) m (λ k. ok) (λ t w f. record { place = placed m _ (state m d.store) f q q; saved = rw q ok.saved })
  remains_naming (return_to m) h =
      return_cases e d.store d.book (Left (return_to m)) m (λ k. ok) (λ t a. record { place = ok.place; saved = ok.saved })
  remains_naming (drop m) h =
      let q = not-true (eq_bytes m n) h in
      let apart : n ≢ m = λ r. tf (sym (bytes_eq (sym r)) ∙ q) in
      drop_cases e d.store d.book (Left (drop m)) m (λ k. ok) (λ t a. record { place = placed m _ none a.place q refl; saved = saved_forgotten m n apart g.saved ∙ ok.saved })
  remains_naming reset h = tf (sym h)

  remains_next : (c : StateCall) → leaves n c ≡ true → Remains n s l (next_desk e d c) (next_ledgers e d g c)
  remains_next (call c) h = record { place = ok.place; saved = ok.saved }
  remains_next (naming x) h = remains_naming x h

  -- the return
  returns : is_some (given (outcome_on e d (return_to n))) ≡ true
      → ((next_desk e d (naming (return_to n))).store ≡ keep_reports d.store s) × ((next_ledgers e d g (naming (return_to n))).present ≡ l)
  returns = return_cases e d.store d.book
      (λ o. is_some (given o) ≡ true → ((left d o).store ≡ keep_reports d.store s) × ((turned_by g (return_to n) o).present ≡ l)) n (λ k t. tf (sym t))
      (λ t a u. (ap (λ (x : Place). keep_reports d.store (held_store x)) ok.place, rw ok.saved refl))

remains_after : (e : Env) (n : List ℕ) (s : Store) (l : Ledger) (d : Desk) (g : Ledgers) → Remains n s l d g → (cs : List StateCall) → all (leaves n) cs ≡ true
    → Remains n s l (after_desk e d cs) (after_ledgers e d g cs)
unfolding after_desk after_ledgers
remains_after e n s l d g ok [] h = ok
remains_after e n s l d g ok (c ∷ cs) h = remains_after e n s l (next_desk e d c) (next_ledgers e d g c)
    (remains_next e n s l d g ok c (and_left (leaves n c) (all (leaves n) cs) h)) cs (and_right (leaves n c) (all (leaves n) cs) h)

-- one call behind a list
desk_last : (e : Env) (d : Desk) (cs : List StateCall) (c : StateCall) → after_desk e d (cs ++ (c ∷ [])) ≡ next_desk e (after_desk e d cs) c
unfolding after_desk
desk_last e d [] c = refl
desk_last e d (b ∷ cs) c = desk_last e (next_desk e d b) cs c

ledgers_last : (e : Env) (d : Desk) (g : Ledgers) (cs : List StateCall) (c : StateCall)
    → after_ledgers e d g (cs ++ (c ∷ [])) ≡ next_ledgers e (after_desk e d cs) (after_ledgers e d g cs) c
unfolding after_desk after_ledgers
ledgers_last e d g [] c = refl
ledgers_last e d g (b ∷ cs) c = ledgers_last e (next_desk e d b) (next_ledgers e d g b) cs c

pub returns_as_named : ReturnsAsNamed
unfolding after_desk after_ledgers
returns_as_named e d g n cs h taken back = record {
  store = ap (λ (x : Desk). x.store) (desk_last e d (up_to_return n cs) (naming (return_to n))) ∙ r.0;
  ledger = ap (λ (x : Ledgers). x.present) (ledgers_last e d g (up_to_return n cs) (naming (return_to n))) ∙ r.1;
}
  where
    d₁ : Desk
    d₁ = next_desk e d (naming (name n))

    g₁ : Ledgers
    g₁ = next_ledgers e d g (naming (name n))

    r : ((next_desk e (after_desk e d (up_to_return n cs)) (naming (return_to n))).store ≡ keep_reports (after_desk e d (up_to_return n cs)).store d.store)
        × ((next_ledgers e (after_desk e d (up_to_return n cs)) (after_ledgers e d g (up_to_return n cs)) (naming (return_to n))).present ≡ g.present)
    r = returns e n d.store g.present (after_desk e d₁ cs) (after_ledgers e d₁ g₁ cs)
        (remains_after e n d.store g.present d₁ g₁ (remains_first e d g n taken) cs h) back
