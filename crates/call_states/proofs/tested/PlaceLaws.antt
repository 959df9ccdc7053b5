-- A name's length, and its place: a search over a book's places ends within them exactly where one passes its test, so where a name goes, and where it is
-- held, is told by one number.
-- Assumes nothing.
use mathlib.Core.Path.{◌≡◌, refl, ap, sym, ◌∙◌}
use mathlib.Core.List.{List, [], ◌∷◌}
use mathlib.Core.Bool.{Bool, true, false, not, ◌&&◌}
use mathlib.Core.Option.{none, some}
use Prim.Native.Nat.{ℕ, suc, ◌<◌, ◌≤◌}
use native.Mathlib.Omega.{arith}
use lib.Dec.{ltb, leb}
use lib.ListN.{length, get_or}
use borrow.Author.Tests.{lt-ltb, le-ltb, ltb-true, lt-leb, le-leb}
use Rattle.std.specs.Prelude.{Some, None, Option}
use Rattle.scope.specs.Base.{pick, any}
use Rattle.scope.specs.Limits.{MAX_STATES}
use Rattle.scope.specs.States.{Place, is_free, under, is_held, place_where, place_for, no_place}
use Rattle.book.specs.Places.{if_place}
use Rattle.scope.proofs.TestLaws.{or_no}
use Rattle.scope.proofs.PlaceLaws.{found}

-- where no place passes, the search ends behind the last
nowhere : (p : Place → Bool) (ps : List Place) → any p ps ≡ false → place_where p ps ≡ length ps
unfolding place_where
nowhere p [] e = refl
nowhere p (x ∷ xs) e =
    let q = or_no (p x) (any p xs) e in
    rw q.0 (ap suc (nowhere p xs q.1))

module _ (p : Place → Bool) (ps : List Place) (eight : length ps ≡ MAX_STATES) where
  by_any : (b : Bool) → any p ps ≡ b → b ≡ ltb (place_where p ps) MAX_STATES
  by_any true e = let f = found p ps e in sym (lt-ltb (place_where p ps) MAX_STATES (omega (arith, f.inside)))
  by_any false e = sym (le-ltb (place_where p ps) MAX_STATES (omega (arith, nowhere p ps e)))

  pub any_where : any p ps ≡ ltb (place_where p ps) MAX_STATES
  any_where = by_any (any p ps) refl

module _ (n : List ℕ) (ps : List Place) (eight : length ps ≡ MAX_STATES) where
  -- a name's place, as the code finds it
  pub held_there : place_where (under n) ps < MAX_STATES → is_held n ps ≡ true
  held_there l = any_where (under n) ps eight ∙ lt-ltb (place_where (under n) ps) MAX_STATES l

  pub held_nowhere : MAX_STATES ≤ place_where (under n) ps → is_held n ps ≡ false
  held_nowhere l = any_where (under n) ps eight ∙ le-ltb (place_where (under n) ps) MAX_STATES l

  pub for_by : {o r : Option ℕ} → o ≡ if_place (place_where (under n) ps) → (o ≡ None → r ≡ if_place (place_where is_free ps)) → ((i : ℕ) → o ≡ Some i → r ≡ Some i)
      → r ≡ if_place (place_for n ps)
  for_by {o} {r} q f g = go (is_held n ps) refl
    where
      go : (b : Bool) → is_held n ps ≡ b → r ≡ if_place (pick b (place_where (under n) ps) (place_where is_free ps))
      go true e =
          let t : ltb (place_where (under n) ps) MAX_STATES ≡ true = sym (any_where (under n) ps eight) ∙ e in
          rw t (g (place_where (under n) ps) (rw t at q))
      go false e =
          let t : ltb (place_where (under n) ps) MAX_STATES ≡ false = sym (any_where (under n) ps eight) ∙ e in
          f (rw t at q)

  -- "a ninth" has no place
  no_place_by : (b : Bool) → is_held n ps ≡ b → (not b && not (any is_free ps)) ≡ leb MAX_STATES (pick b (place_where (under n) ps) (place_where is_free ps))
  no_place_by true e =
      sym (lt-leb MAX_STATES (place_where (under n) ps) (ltb-true (place_where (under n) ps) MAX_STATES (sym (any_where (under n) ps eight) ∙ e)))
  no_place_by false e = go (any is_free ps) refl
    where
      go : (b : Bool) → any is_free ps ≡ b → not b ≡ leb MAX_STATES (place_where is_free ps)
      go true q = let f = found is_free ps q in sym (lt-leb MAX_STATES (place_where is_free ps) (omega (arith, f.inside)))
      go false q = sym (le-leb MAX_STATES (place_where is_free ps) (omega (arith, nowhere is_free ps q)))

  pub no_place_lem : (no_place n ps).0 ≡ leb MAX_STATES (place_for n ps)
  no_place_lem = no_place_by (is_held n ps) refl

-- a place that is held under a name is not free
under_held : (n : List ℕ) (x : Place) → under n x ≡ true → is_free x ≡ false
under_held n none e = sym e
under_held n (some h) e = refl

pub found_held : (n : List ℕ) (ps : List Place) → is_held n ps ≡ true → is_free (get_or ps (place_where (under n) ps) none) ≡ false
found_held n ps e = under_held n (get_or ps (place_where (under n) ps) none) (found (under n) ps e).passes
