-- Places in a names buffer: a change of one place's words changes that place alone, and clean ones stay clean. Everyone who writes a place uses these.
-- Assumes nothing.
use mathlib.Core.Path.{◌≡◌, refl, ap, sym, ◌∙◌}
use mathlib.Core.Bool.{Bool, true, false, ◌&&◌}
use mathlib.Core.List.{List}
use mathlib.Core.Option.{none}
use Prim.Native.Nat.{ℕ, suc, ◌+◌, ◌<◌, ◌≤◌}
use native.Mathlib.Omega.{arith}
use lib.Dec.{eqb, leb}
use lib.ListN.{length, get_or, set, drop, length-set}
use lib.Seq.{get_or-set_same, get_or-set_other, ext_get_or}
use borrow.Rule.Slice.PartMut.{put_mid, mid_len}
use borrow.Author.Tests.{le-leb, leb-true, eqb-true, eqb-false}
use Rattle.scope.specs.Base.{all, from}
use Rattle.scope.specs.Limits.{MAX_STATES}
use Rattle.scope.specs.States.{with_places}
use Rattle.layout.proofs.Lists.{and_both, and_left, and_right, part_here, part_other, drop_past, length_part, length_from, get_from}
use Rattle.book.specs.Words.{BOOK_HEAD, place_from, place_words, book_words, place_at, place_in, place_clean, node_room_in, child_room_in, places_in, book_in, book_clean, BookBecame}
pub use Rattle.book.specs.Places.{place_of}
use Rattle.book.specs.Places.{put_place}
use Rattle.book.proofs.Geometry.{place_span, place_before, place_inside, place_ends, place_lower, place_higher, word_before}
use Rattle.scope.proofs.Sizes.{all_from, from_all}

-- a clean book as plain facts
pub record BookLies (bs : List ℕ) : Type 0 where
  pub head : BOOK_HEAD ≤ length bs
  pub words : book_words (node_room_in bs) (child_room_in bs) ≤ length bs
  pub each : (i : ℕ) → i < MAX_STATES → place_clean (node_room_in bs) (child_room_in bs) (place_at bs (node_room_in bs) (child_room_in bs) i) ≡ true

abbrev clean_at : List ℕ → ℕ → Bool
clean_at bs i = place_clean (node_room_in bs) (child_room_in bs) (place_at bs (node_room_in bs) (child_room_in bs) i)

pub book_lies : (bs : List ℕ) → book_clean bs ≡ true → BookLies bs
unfolding book_clean
book_lies bs e =
    let h : (leb (book_words (node_room_in bs) (child_room_in bs)) (length bs) && all (clean_at bs) (from 0 MAX_STATES)) ≡ true =
    and_right (leb BOOK_HEAD (length bs)) _ e in
    record {
      head = leb-true _ _ (and_left (leb BOOK_HEAD (length bs)) _ e);
      words = leb-true _ _ (and_left (leb (book_words (node_room_in bs) (child_room_in bs)) (length bs)) _ h);
      each = λ i l. from_all (clean_at bs) 0 MAX_STATES (and_right (leb (book_words (node_room_in bs) (child_room_in bs)) (length bs)) _ h) i (omega arith) l;
    }

pub lies_book : (bs : List ℕ) → BookLies bs → book_clean bs ≡ true
unfolding book_clean
lies_book bs b =
    and_both _ _ (le-leb _ _ b.head)
    (and_both _ _ (le-leb _ _ b.words) (all_from (clean_at bs) 0 MAX_STATES (λ i a l. b.each i l)))

-- the places of a book
pub places_length : (bs : List ℕ) → length (places_in bs) ≡ MAX_STATES
places_length bs = length_from (place_of bs) 0 MAX_STATES

pub places_at : (bs : List ℕ) (i : ℕ) → i < MAX_STATES → get_or (places_in bs) i none ≡ place_of bs i
places_at bs i h =
    let z : 0 + i ≡ i = omega arith in
    get_from (place_of bs) 0 MAX_STATES i none h ∙ ap (place_of bs) z

module _ (bs : List ℕ) (n c i : ℕ) (words : book_words n c ≤ length bs) (lies : i < MAX_STATES) where
  fits : place_from n c i + place_words n c ≤ length bs
  fits = let h = place_inside n c i lies in omega arith

  pub place_length : length (place_at bs n c i) ≡ place_words n c
  place_length = mid_len (place_from n c i) (place_from n c (suc i)) bs (let h = place_ends n c i lies in omega arith) ∙ place_span n c i

  module _ (ps : List ℕ) (len : length ps ≡ place_words n c) where
    put_is : put_place bs n c i ps ≡ put_mid (place_from n c i) (place_words n c) bs ps
    put_is = rw (place_span n c i) refl

    pub put_length : length (put_place bs n c i ps) ≡ length bs
    put_length = rw put_is (length_part (place_from n c i) (place_words n c) bs ps len fits)

    pub place_here : place_at (put_place bs n c i ps) n c i ≡ ps
    place_here = rw (place_span n c i) (part_here (place_from n c i) (place_words n c) bs ps len fits)

    pub place_there : (j : ℕ) → (j ≡ i → ⊥) → place_at (put_place bs n c i ps) n c j ≡ place_at bs n c j
    place_there j z =
        rw (place_span n c i, place_span n c j)
        (part_other (place_from n c i) (place_words n c) (place_from n c j) bs ps len fits
        (λ h. place_before n c j i (place_lower n c j i h)) (λ h. place_before n c i j (place_higher n c i j (λ e. z (sym e)) h)))

    -- words past the book stay
    pub beyond_put : drop (book_words n c) (put_place bs n c i ps) ≡ drop (book_words n c) bs
    beyond_put = rw put_is (drop_past (place_from n c i) (place_words n c) bs ps len fits (book_words n c) (place_inside n c i lies))

    -- and so do the capacities
    before : place_from n c i ≤ length bs
    before = let f = fits in omega arith

    pub node_room_put : node_room_in (put_place bs n c i ps) ≡ node_room_in bs
    node_room_put = rw put_is (word_before (place_from n c i) (place_words n c) 0 bs ps (omega arith) before)

    pub child_room_put : child_room_in (put_place bs n c i ps) ≡ child_room_in bs
    child_room_put = rw put_is (word_before (place_from n c i) (place_words n c) 1 bs ps (omega arith) before)

-- another place in a clean book
abbrev placed : List ℕ → ℕ → List ℕ → List ℕ
placed bs i ps = put_place bs (node_room_in bs) (child_room_in bs) i ps

module _ (bs : List ℕ) (b : BookLies bs) (i : ℕ) (lies : i < MAX_STATES) (ps : List ℕ) (len : length ps ≡ place_words (node_room_in bs) (child_room_in bs)) where
  node_room_lem : node_room_in (placed bs i ps) ≡ node_room_in bs
  node_room_lem = node_room_put bs (node_room_in bs) (child_room_in bs) i b.words lies ps len

  child_room_lem : child_room_in (placed bs i ps) ≡ child_room_in bs
  child_room_lem = child_room_put bs (node_room_in bs) (child_room_in bs) i b.words lies ps len

  here : place_at (placed bs i ps) (node_room_in bs) (child_room_in bs) i ≡ ps
  here = place_here bs (node_room_in bs) (child_room_in bs) i b.words lies ps len

  there : (j : ℕ) → (j ≡ i → ⊥) → place_at (placed bs i ps) (node_room_in bs) (child_room_in bs) j ≡ place_at bs (node_room_in bs) (child_room_in bs) j
  there = place_there bs (node_room_in bs) (child_room_in bs) i b.words lies ps len

  at_by : (t : Bool) (j : ℕ) → eqb j i ≡ t → j < MAX_STATES
      → place_in (node_room_in bs) (child_room_in bs) (place_at (placed bs i ps) (node_room_in bs) (child_room_in bs) j)
      ≡ get_or (set (places_in bs) i (place_in (node_room_in bs) (child_room_in bs) ps)) j none
  at_by true j q h =
      let z : j ≡ i = eqb-true j i q in
      rw (z, here) (sym (get_or-set_same (places_in bs) i (place_in (node_room_in bs) (child_room_in bs) ps) none (rw (places_length bs) lies)))
  at_by false j q h =
      let z : j ≡ i → ⊥ = eqb-false j i q in
      ap (place_in (node_room_in bs) (child_room_in bs)) (there j z)
      ∙ (sym (places_at bs j h) ∙ sym (get_or-set_other (places_in bs) i j (place_in (node_room_in bs) (child_room_in bs) ps) none z))

  at_put : (j : ℕ) → j < MAX_STATES → get_or (places_in (placed bs i ps)) j none ≡ get_or (set (places_in bs) i (place_in (node_room_in bs) (child_room_in bs) ps)) j none
  at_put j h = places_at (placed bs i ps) j h ∙ rw (node_room_lem, child_room_lem) (at_by (eqb j i) j refl h)

  pub places_put : places_in (placed bs i ps) ≡ set (places_in bs) i (place_in (node_room_in bs) (child_room_in bs) ps)
  places_put =
      ext_get_or none (places_in (placed bs i ps)) (set (places_in bs) i (place_in (node_room_in bs) (child_room_in bs) ps))
      (places_length (placed bs i ps) ∙ (sym (places_length bs) ∙ sym (length-set (places_in bs) i (place_in (node_room_in bs) (child_room_in bs) ps))))
      (λ j h. at_put j (rw (places_length (placed bs i ps)) at h))

  pub book_put : book_in (placed bs i ps) ≡ with_places (book_in bs) (set (book_in bs).places i (place_in (node_room_in bs) (child_room_in bs) ps))
  unfolding book_in
  book_put = rw (places_put, node_room_lem, child_room_lem) refl

  module _ (cl : place_clean (node_room_in bs) (child_room_in bs) ps ≡ true) where
    clean_by : (t : Bool) (j : ℕ) → eqb j i ≡ t → j < MAX_STATES
        → place_clean (node_room_in bs) (child_room_in bs) (place_at (placed bs i ps) (node_room_in bs) (child_room_in bs) j) ≡ true
    clean_by true j q h = let z : j ≡ i = eqb-true j i q in rw (z, here) cl
    clean_by false j q h = rw (there j (eqb-false j i q)) (b.each j h)

    pub lies_put : BookLies (placed bs i ps)
    lies_put =
        let l : length (placed bs i ps) ≡ length bs = put_length bs (node_room_in bs) (child_room_in bs) i b.words lies ps len in
        record {
          head = rw l b.head;
          words = rw (node_room_lem, child_room_lem, l) b.words;
          each = λ j h. rw (node_room_lem, child_room_lem) (clean_by (eqb j i) j refl h);
        }

    -- what a writer of one place promises
    pub became_put : BookBecame bs (placed bs i ps) (with_places (book_in bs) (set (book_in bs).places i (place_in (node_room_in bs) (child_room_in bs) ps)))
    unfolding book_in
    became_put = record {
      clean = lies_book (placed bs i ps) lies_put;
      is = book_put;
      beyond = beyond_put bs (node_room_in bs) (child_room_in bs) i b.words lies ps len;
    }
