-- That no two held names are the same, place by place: a free place has no name, and the name of a held one is compared with each place behind it.
-- Assumes nothing.
use mathlib.Core.Path.{◌≡◌, refl, ap, sym, ◌∙◌}
use mathlib.Core.Bool.{Bool, true, false, not, ◌&&◌, ◌||◌}
use mathlib.Core.List.{List, [], ◌∷◌, map}
use Prim.Native.Nat.{ℕ, zero, suc, ◌+◌, ◌-◌, ◌≤◌, ◌<◌}
use native.Mathlib.Omega.{arith}
use lib.Dec.{eqb}
use lib.ListN.{length}
use borrow.Author.Tests.{ne_eqb, eqb-true, eqb-false}
use Rattle.scope.specs.Base.{all, any, from}
use Rattle.scope.specs.Limits.{MAX_STATES}
use Rattle.scope.specs.States.{Place, under, held_once, names_differ}
use Rattle.layout.proofs.Lists.{all_map}
use Rattle.book.specs.Words.{place_at, name_length_in, name_bytes_in, place_in, node_room_in, child_room_in, book_clean}
use Rattle.book.specs.declared.Room.{Room}
use Rattle.book.specs.Places.{room_in, place_of, held_under}
use Rattle.book.proofs.Names.{under_is, place_in_free, place_name, name_is, name_length_lem, apart_length}
use Rattle.book_sound.specs.Tests.{other_name, name_once}
use Rattle.scope.proofs.Sizes.{all_from}

-- tests of every element

not_any : {A : Type 0} (p : A → Bool) (l : List A) → not (any p l) ≡ all (λ x. not (p x)) l
not_any p [] = refl
not_any p (x ∷ l) = go (p x) (not_any p l)
  where
    go : (b : Bool) → not (any p l) ≡ all (λ x. not (p x)) l → not (b || any p l) ≡ (not b && all (λ x. not (p x)) l)
    go true e = refl
    go false e = e

pub all_like : {A : Type 0} (p q : A → Bool) (l : List A) → ((x : A) → p x ≡ q x) → all p l ≡ all q l
all_like p q [] e = refl
all_like p q (x ∷ l) e = rw (e x, all_like p q l e) refl

-- the words of place i
abbrev words : List ℕ → ℕ → List ℕ
words bs i = place_at bs (node_room_in bs) (child_room_in bs) i

-- what the code reads: a room r, the words x and y of places j and i, and whether y's name is x's
pub other_told : (bs : List ℕ) (i j : ℕ) {r : Room} {x y : List ℕ} {t : Bool} → r ≡ room_in bs → x ≡ place_at bs r.nodes r.children j
    → y ≡ place_at bs r.nodes r.children i → t ≡ held_under (name_bytes_in y) x → not t ≡ other_name bs i j
other_told bs i j w ex ey h = ap not (rw (ex, ey, w) at h)

module _ (bs : List ℕ) (cl : book_clean bs ≡ true) (i : ℕ) where
  -- behind a held place
  held_run : (name_length_in (words bs i) ≡ 0 → ⊥) → (l : List ℕ) → held_once (place_of bs i) (map (place_of bs) l) ≡ all (other_name bs i) l
  unfolding place_in
  held_run z l =
      rw (ne_eqb (name_length_in (words bs i)) 0 z)
      (not_any (under (name_bytes_in (words bs i))) (map (place_of bs) l)
      ∙ (all_map (λ x. not (under (name_bytes_in (words bs i)) x)) (place_of bs) l
      ∙ all_like (λ j. not (under (name_bytes_in (words bs i)) (place_of bs j))) (other_name bs i) l
      (λ j. ap not (under_is (name_bytes_in (words bs i)) (node_room_in bs) (child_room_in bs) (words bs j)))))

  no_name : name_length_in (words bs i) ≡ 0 → name_bytes_in (words bs i) ≡ []
  no_name z = name_is (words bs i) ∙ rw z refl

  -- no place is held under no bytes
  none_under : (j : ℕ) → j < MAX_STATES → held_under [] (words bs j) ≡ false
  unfolding held_under
  none_under j h = go (eqb (name_length_in (words bs j)) 0) refl
    where
      go : (t : Bool) → eqb (name_length_in (words bs j)) 0 ≡ t → held_under [] (words bs j) ≡ false
      go true e = rw e refl
      go false e =
          let l : length (name_bytes_in (words bs j)) ≡ name_length_in (words bs j) = name_length_lem (words bs j) (place_name bs j cl h) in
          let z : name_length_in (words bs j) ≡ 0 → ⊥ = eqb-false (name_length_in (words bs j)) 0 e in
          rw e (sym (apart_length (name_bytes_in (words bs j)) [] (λ q. z (sym l ∙ q))))

  free_run : name_length_in (words bs i) ≡ 0 → (a m : ℕ) → a + m ≤ MAX_STATES
      → held_once (place_of bs i) (map (place_of bs) (from a m)) ≡ all (other_name bs i) (from a m)
  free_run z a m h =
      ap (λ (x : Place). held_once x (map (place_of bs) (from a m))) (place_in_free (node_room_in bs) (child_room_in bs) (words bs i) z)
      ∙ sym (all_from (other_name bs i) a m (λ j b d. rw (no_name z, none_under j (omega arith)) refl))

  run_by : (t : Bool) → eqb (name_length_in (words bs i)) 0 ≡ t → i < MAX_STATES → name_once bs i ≡ all (other_name bs i) (from (suc i) (MAX_STATES - suc i))
  run_by true e h = free_run (eqb-true (name_length_in (words bs i)) 0 e) (suc i) (MAX_STATES - suc i) (omega arith)
  run_by false e h = held_run (eqb-false (name_length_in (words bs i)) 0 e) (from (suc i) (MAX_STATES - suc i))

  pub once_run : i < MAX_STATES → name_once bs i ≡ all (other_name bs i) (from (suc i) (MAX_STATES - suc i))
  once_run h = run_by (eqb (name_length_in (words bs i)) 0) refl h

-- from place i on
abbrev pub differ_from : List ℕ → ℕ → Bool
differ_from bs i = names_differ (map (place_of bs) (from i (MAX_STATES - i)))

module _ (bs : List ℕ) (i : ℕ) where
  next : i < MAX_STATES → differ_from bs i ≡ (name_once bs i && differ_from bs (suc i))
  next h = let z : MAX_STATES - i ≡ suc (MAX_STATES - suc i) = omega arith in rw z refl

pub differ_all : (bs : List ℕ) (i n : ℕ) → i + n ≡ MAX_STATES → all (name_once bs) (from i n) ≡ differ_from bs i
differ_all bs i zero e = let z : MAX_STATES - i ≡ 0 = omega arith in rw z refl
differ_all bs i (suc n) e = rw (differ_all bs (suc i) n (omega arith)) (sym (next bs i (omega arith)))
