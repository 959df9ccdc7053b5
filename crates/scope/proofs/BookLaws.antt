-- A sound book as plain facts, and each call on a store and its names buffer: refused, or every test passed and the definition's store and book. Assumes
-- nothing.
use mathlib.Core.Path.{◌≡◌}
use mathlib.Core.List.{List, [], ◌∷◌, ◌++◌}
use mathlib.Core.Bool.{true, false, not, ◌&&◌}
use Prim.Native.Nat.{ℕ}
use lib.Dec.{eqb}
use lib.ListN.{length}
use borrow.Author.Tests.{not-false, eqb-true, eq-eqb}
use Rattle.scope.specs.Base.{all}
use Rattle.scope.specs.Limits.{MAX_STATES}
use Rattle.scope.specs.Chart.{Env}
use Rattle.scope.specs.Nodes.{Store}
use Rattle.scope.specs.Force.{reset}
use Rattle.scope.specs.Sound.{reads, sound_store}
use Rattle.scope.specs.Calls.{Outcome, refused, done}
use Rattle.scope.specs.States.{Book, reads_book, blank, is_held, place_where, place_for, under, store_under, name_length, same_room, place_sound, names_differ, book_sound}
use Rattle.scope.specs.States.{book_tests, wrong_length, unheld, no_place, named, name_state_call, keep_reports, return_to_call, dropped, drop_name_call, reset_names_call}
use Rattle.scope.proofs.TestLaws.{and_left, and_right, and_both, or_no}
use Rattle.scope.proofs.Steps.{judged_cases}
use Rattle.scope.proofs.PlaceLaws.{place_at, Apart, differ_apart, apart_differ, For, Holds, held_place, place_for_lem}

pub record BookFacts (e : Env) (s : Store) (b : Book) : Type 0 where
  pub eight : length b.places ≡ MAX_STATES
  pub room : same_room s b ≡ true
  pub each : all (place_sound e b) b.places ≡ true
  pub apart : Apart b.places

pub book_facts : (e : Env) (s : Store) (b : Book) → book_sound e s b ≡ true → BookFacts e s b
unfolding book_sound
book_facts e s b h = record {
  eight = eqb-true (length b.places) MAX_STATES (and_left (eqb (length b.places) MAX_STATES) _ h);
  room = and_left (same_room s b) _ h₁;
  each = and_left (all (place_sound e b) b.places) _ h₂;
  apart = differ_apart b.places (and_right (all (place_sound e b) b.places) _ h₂);
}
  where
    h₁ : (same_room s b && (all (place_sound e b) b.places && names_differ b.places)) ≡ true
    h₁ = and_right (eqb (length b.places) MAX_STATES) _ h

    h₂ : (all (place_sound e b) b.places && names_differ b.places) ≡ true
    h₂ = and_right (same_room s b) _ h₁

pub facts_book : (e : Env) (s : Store) (b : Book) → BookFacts e s b → book_sound e s b ≡ true
unfolding book_sound
facts_book e s b f = and_both _ _ (eq-eqb (length b.places) MAX_STATES f.eight)
    (and_both _ _ f.room (and_both _ _ f.each (apart_differ b.places f.apart)))

-- what every one of these calls has tested
pub record Tested (e : Env) (s : Store) (b : Book) : Type 0 where
  pub store : sound_store e s ≡ true
  pub book : BookFacts e s b

-- the name is held, at the place that is found
pub record HeldAt (n : List ℕ) (b : Book) : Type 0 where
  pub place : For n b.places (place_where (under n) b.places)
  pub state : Holds n (place_at b.places (place_where (under n) b.places))

module _ (e : Env) (s : Store) (b : Book) where
  tested : not (sound_store e s) ≡ false → not (book_sound e s b) ≡ false → Tested e s b
  tested p q = record { store = not-false (sound_store e s) p; book = book_facts e s b (not-false (book_sound e s b) q) }

  held_at : (n : List ℕ) → Tested e s b → (unheld n b.places).0 ≡ false → HeldAt n b
  held_at n t q =
      let h = held_place n b.places t.book.apart (not-false (is_held n b.places) (or_no (not (name_length n)) (not (is_held n b.places)) q).1) in
      record { place = h.0; state = h.1 }

  pub name_cases : (P : Outcome Book → Type 0) (n : List ℕ) → ((k : ℕ) → P (refused k))
      → (Tested e s b → name_length n ≡ true → For n b.places (place_for n b.places) → P (done (named n s b) s))
      → P (name_state_call e (reads s) (reads_book b) n)
  unfolding name_state_call
  name_cases P n z f = judged_cases P (book_tests e (reads s) (reads_book b) ++ (wrong_length n ∷ no_place n b.places ∷ [])) (done (named n s b) s) z (λ p.
      let t = tested p.1.0 p.1.1.0 in
      f t (not-false (name_length n) p.1.1.1.0) (place_for_lem n b.places t.book.apart p.1.1.1.1.0))

  pub return_cases : (P : Outcome Book → Type 0) (n : List ℕ) → ((k : ℕ) → P (refused k))
      → (Tested e s b → HeldAt n b → P (done b (keep_reports s (store_under n b.places))))
      → P (return_to_call e (reads s) (reads_book b) n)
  unfolding return_to_call
  return_cases P n z f = judged_cases P (book_tests e (reads s) (reads_book b) ++ (unheld n b.places ∷ [])) (done b (keep_reports s (store_under n b.places))) z (λ p.
      let t = tested p.1.0 p.1.1.0 in
      f t (held_at n t p.1.1.1.0))

  pub drop_cases : (P : Outcome Book → Type 0) (n : List ℕ) → ((k : ℕ) → P (refused k))
      → (Tested e s b → HeldAt n b → P (done (dropped n b) s))
      → P (drop_name_call e (reads s) (reads_book b) n)
  unfolding drop_name_call
  drop_cases P n z f = judged_cases P (book_tests e (reads s) (reads_book b) ++ (unheld n b.places ∷ [])) (done (dropped n b) s) z (λ p.
      let t = tested p.1.0 p.1.1.0 in
      f t (held_at n t p.1.1.1.0))

  pub reset_cases : (P : Outcome Book → Type 0) → ((k : ℕ) → P (refused k))
      → (Tested e s b → P (done (blank b.node_room b.child_room) (reset s)))
      → P (reset_names_call e (reads s) (reads_book b))
  unfolding reset_names_call
  reset_cases P z f = judged_cases P (book_tests e (reads s) (reads_book b)) (done (blank b.node_room b.child_room) (reset s)) z (λ p. f (tested p.1.0 p.1.1.0))
