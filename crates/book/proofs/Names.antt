-- The name in a place's words: what the code's comparisons of it say, what is read of a name that was written, and that a free place is no place held.
-- Assumes nothing.
use mathlib.Core.Path.{◌≡◌, refl, ap, sym, ◌∙◌}
use mathlib.Core.Bool.{Bool, true, false, not, ◌&&◌, false≢true}
use mathlib.Core.List.{List, [], ◌∷◌}
use mathlib.Core.Option.{none}
use Prim.Native.Nat.{ℕ, suc, ◌+◌, ◌-◌, ◌<◌, ◌≤◌}
use native.Mathlib.Omega.{arith}
use native.Mathlib.Numerals.{add-one}
use lib.Dec.{eqb, leb}
use lib.ListN.{length, set, take, drop, length-drop}
use lib.Seq.{length-take-le}
use borrow.Author.Tests.{eq-eqb, ne_eqb, eqb-true, eqb-false, leb-true}
use lib.Pointwise.{pointwise}
use Rattle.std.specs.List.{list_all, zip}
use Rattle.scope.specs.Base.{pick}
use Rattle.scope.specs.Limits.{MAX_STATE_NAME, MAX_STATES}
use Rattle.scope.specs.Names.{eq_bytes}
use Rattle.scope.specs.States.{under, is_free}
use Rattle.scope.proofs.NameLaws.{eq_bytes_lem}
use Rattle.layout.proofs.Lists.{and_left}
use Rattle.layout.specs.Words.{between}
use Rattle.book.specs.Words.{place_words, place_at, name_length_in, name_bytes_in, place_in, name_words_clean, held_clean, place_clean}
use Rattle.book.specs.Words.{node_room_in, child_room_in, book_clean}
use Rattle.book.specs.Places.{room_in, PlaceLies, NameLies, held_under}
use Rattle.book.specs.declared.Room.{Room}
use Rattle.book.proofs.Places.{book_lies, place_length}
use Rattle.names.proofs.Laws.{pointwise_same}

-- what the code's tests say of a place

pub under_is : (name : List ℕ) (n c : ℕ) (ps : List ℕ) → under name (place_in n c ps) ≡ held_under name ps
unfolding place_in held_under
under_is name n c ps = go (eqb (name_length_in ps) 0) refl
  where
    go : (t : Bool) → eqb (name_length_in ps) 0 ≡ t → under name (place_in n c ps) ≡ held_under name ps
    go true e = rw e refl
    go false e = rw e refl

pub free_is : (n c : ℕ) (ps : List ℕ) → is_free (place_in n c ps) ≡ eqb (name_length_in ps) 0
unfolding place_in
free_is n c ps = go (eqb (name_length_in ps) 0) refl
  where
    go : (t : Bool) → eqb (name_length_in ps) 0 ≡ t → is_free (place_in n c ps) ≡ t
    go true e = rw e refl
    go false e = rw e refl

-- a free place, whatever its other words
pub place_in_free : (n c : ℕ) (ps : List ℕ) → name_length_in ps ≡ 0 → place_in n c ps ≡ none
unfolding place_in
place_in_free n c ps e = rw (eq-eqb (name_length_in ps) 0 e) refl

pub clean_free : (n c : ℕ) (ps : List ℕ) → name_length_in ps ≡ 0 → place_clean n c ps ≡ true
unfolding place_clean
clean_free n c ps e = rw (eq-eqb (name_length_in ps) 0 e) refl

pub freed : (ps : List ℕ) → name_length_in (set ps 0 0) ≡ 0
freed [] = refl
freed (x ∷ ps) = refl

-- a held one
pub clean_held : (n c : ℕ) (ps : List ℕ) → (name_length_in ps ≡ 0 → ⊥) → place_clean n c ps ≡ held_clean n c ps
unfolding place_clean
clean_held n c ps z = rw (ne_eqb (name_length_in ps) 0 z) refl

-- the words of a clean place's name are there
pub name_lies : (n c : ℕ) (ps : List ℕ) → place_words n c ≤ length ps → place_clean n c ps ≡ true → NameLies ps
unfolding place_clean held_clean name_words_clean
name_lies n c ps l cl = go (eqb (name_length_in ps) 0) refl cl
  where
    go : (t : Bool) → eqb (name_length_in ps) 0 ≡ t → pick t true (held_clean n c ps) ≡ true → suc (name_length_in ps) ≤ length ps
    go true e q = let z : name_length_in ps ≡ 0 = eqb-true (name_length_in ps) 0 e in omega arith
    go false e q =
        let z : name_length_in ps ≤ MAX_STATE_NAME = leb-true (name_length_in ps) MAX_STATE_NAME
        (and_left (leb (name_length_in ps) MAX_STATE_NAME) _ (and_left (name_words_clean ps) _ q)) in
        omega arith

-- comparing

pub apart_length : (a b : List ℕ) → (length a ≡ length b → ⊥) → false ≡ eq_bytes a b
apart_length a b z = go (eq_bytes a b) refl
  where
    go : (t : Bool) → eq_bytes a b ≡ t → false ≡ t
    go true e = absurd (z (ap length (eq_bytes_lem a b e)))
    go false e = refl

-- lists of one length, word by word
pub same_zip : (a b : List ℕ) → length a ≡ length b → list_all (λ (p : ℕ × ℕ). eqb p.0 p.1) (zip a b) ≡ eq_bytes a b
unfolding eq_bytes
same_zip [] [] e = refl
same_zip [] (y ∷ b) e = absurd (omega arith)
same_zip (x ∷ a) [] e = absurd (omega arith)
same_zip (x ∷ a) (y ∷ b) e = ap (λ (t : Bool). eqb x y && t) (same_zip a b (omega arith))

-- the words of a name
pub name_is : (ps : List ℕ) → name_bytes_in ps ≡ take (name_length_in ps) (drop 1 ps)
name_is ps = let z : suc (name_length_in ps) - 1 ≡ name_length_in ps = omega arith in ap (λ (k : ℕ). take k (drop 1 ps)) z

pub name_length_lem : (ps : List ℕ) → NameLies ps → length (name_bytes_in ps) ≡ name_length_in ps
name_length_lem ps l = rw (name_is ps) (length-take-le (name_length_in ps) (drop 1 ps) (simp length-drop (omega arith)))

-- the ways out of a comparison of a place's name, which has n bytes, with other bytes
module _ (ps name : List ℕ) (lies : NameLies ps) {n : ℕ} (e : n ≡ name_length_in ps) where
  pub told_free : n ≡ 0 → not (eqb n 0) ≡ held_under name ps
  unfolding held_under
  told_free z = rw (z, eq-eqb (name_length_in ps) 0 (sym e ∙ z)) refl

  module _ (held : n ≡ 0 → ⊥) where
    pub told_held : eq_bytes (name_bytes_in ps) name ≡ held_under name ps
    unfolding held_under
    told_held = rw (ne_eqb (name_length_in ps) 0 (λ z. held (e ∙ z))) refl

    pub told_length : (n ≡ length name → ⊥) → eqb n (length name) ≡ held_under name ps
    told_length z =
        ne_eqb n (length name) z ∙ (apart_length (name_bytes_in ps) name (λ q. z (e ∙ (sym (name_length_lem ps lies) ∙ q))) ∙ told_held)

    -- word by word
    pub told_words : n ≡ length name → list_all (λ (p : ℕ × ℕ). eqb p.0 p.1) (zip (between ps 1 (n + 1)) name) ≡ held_under name ps
    told_words q =
        let x : between ps 1 (n + 1) ≡ name_bytes_in ps = rw (e, add-one (name_length_in ps)) refl in
        rw x (same_zip (name_bytes_in ps) name (name_length_lem ps lies ∙ (sym e ∙ q))) ∙ told_held

-- the name of another place, as a slice
module _ (ps other : List ℕ) (lies : NameLies ps) (there : NameLies other) {n m : ℕ} (e : n ≡ name_length_in ps) (q : m ≡ name_length_in other) where
  same_long : m ≡ length (name_bytes_in other)
  same_long = q ∙ sym (name_length_lem other there)

  module _ {t : Bool} (f : t ≡ eqb n m) where
    pub told_slices : t ≡ true → (n ≡ 0 → ⊥) → {r : Bool} → r ≡ pointwise eqb (between ps 1 (n + 1)) (between other 1 (n + 1))
        → r ≡ held_under (name_bytes_in other) ps
    told_slices s held k =
        let z : n ≡ m = eqb-true n m (sym f ∙ s) in
        let x : between ps 1 (n + 1) ≡ name_bytes_in ps = rw (e, add-one (name_length_in ps)) refl in
        let y : between other 1 (n + 1) ≡ name_bytes_in other = ap (λ j. between other 1 (j + 1)) (z ∙ q) ∙ rw (add-one (name_length_in other)) refl in
        k ∙ (ap (λ l. pointwise eqb l (between other 1 (n + 1))) x
        ∙ (ap (pointwise eqb (name_bytes_in ps)) y
        ∙ (pointwise_same (name_bytes_in ps) (name_bytes_in other) ∙ told_held ps (name_bytes_in other) lies e held)))

    pub told_others : t ≡ false → (n ≡ 0 → ⊥) → t ≡ held_under (name_bytes_in other) ps
    told_others s held =
        let z : n ≡ m → ⊥ = eqb-false n m (sym f ∙ s) in
        f ∙ (ap (eqb n) same_long ∙ told_length ps (name_bytes_in other) lies e held (λ k. z (k ∙ sym same_long)))

pub not_free : {n : ℕ} {t : Bool} → t ≡ not (eqb n 0) → t ≡ true → n ≡ 0 → ⊥
not_free {n} f s z = absurd (false≢true (rw (ap (λ k. not (eqb k 0)) z) at (sym f ∙ s)))

-- the places of a clean book

pub place_name : (bs : List ℕ) (i : ℕ) → book_clean bs ≡ true → i < MAX_STATES → NameLies (place_at bs (node_room_in bs) (child_room_in bs) i)
place_name bs i cl h =
    let b = book_lies bs cl in
    let l = place_length bs (node_room_in bs) (child_room_in bs) i b.words h in
    name_lies (node_room_in bs) (child_room_in bs) (place_at bs (node_room_in bs) (child_room_in bs) i) (omega arith) (b.each i h)

pub place_there : (bs : List ℕ) → book_clean bs ≡ true → {r : Room} → r ≡ room_in bs → {i : ℕ} → i < MAX_STATES → (j : ℕ) → j ≡ i → PlaceLies bs r.nodes r.children j
place_there bs cl q h j e = let b = book_lies bs cl in rw (q, e) (record { words = b.words; index = h })

pub place_named : (bs : List ℕ) → book_clean bs ≡ true → {r : Room} → r ≡ room_in bs → {i : ℕ} → i < MAX_STATES → (j : ℕ) → j ≡ i
    → (ps : List ℕ) → ps ≡ place_at bs r.nodes r.children j → NameLies ps
place_named bs cl q {i} h j e ps p = rw (p, q, e) (place_name bs i cl h)
