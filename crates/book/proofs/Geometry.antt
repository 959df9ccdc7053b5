-- Where places lie: one behind the other, each as long as the others, all of them before the book's end. And a part of the first words of a list is a
-- part of the list.
-- Assumes nothing.
use mathlib.Core.Path.{◌≡◌, ap, sym, ◌∙◌}
use mathlib.Core.List.{List, [], append-nil}
use Prim.Native.Nat.{ℕ, suc, ◌+◌, ◌*◌, ◌-◌, ◌<◌, ◌≤◌}
use native.Mathlib.Omega.{arith}
use native.Mathlib.Nat.{suc-mul, mul-le-mul_right, add-sub_cancel_left}
use native.Mathlib.Decide.{dec_lt}
use lib.ListN.{length, get_or, take}
use lib.Seq.{get_or-take}
use borrow.Rule.Slice.PartMut.{mid_of, put_mid, take_put}
use Rattle.scope.specs.Limits.{MAX_STATES}
use Rattle.layout.proofs.Lists.{part_before}
use Rattle.book.specs.Words.{place_from, place_words, book_words}

-- places

next : (i w : ℕ) → 2 + suc i * w ≡ 2 + i * w + w
next i w = let e = suc-mul i w in omega arith

before : (i j w : ℕ) → i < j → 2 + i * w + w ≤ 2 + j * w
before i j w h =
    let e = suc-mul i w in
    let f : suc i * w ≤ j * w = mul-le-mul_right w h in
    omega arith

level : (i j w : ℕ) → i ≤ j → 2 + i * w ≤ 2 + j * w
level i j w h = let f : i * w ≤ j * w = mul-le-mul_right w h in omega arith

pub place_next : (n c i : ℕ) → place_from n c (suc i) ≡ place_from n c i + place_words n c
place_next n c i = next i (place_words n c)

pub place_span : (n c i : ℕ) → place_from n c (suc i) - place_from n c i ≡ place_words n c
place_span n c i = rw (place_next n c i) (add-sub_cancel_left (place_from n c i) (place_words n c))

pub place_before : (n c i j : ℕ) → i < j → place_from n c i + place_words n c ≤ place_from n c j
place_before n c i j h = before i j (place_words n c) h

pub place_inside : (n c i : ℕ) → i < MAX_STATES → place_from n c i + place_words n c ≤ book_words n c
place_inside n c i h = place_before n c i MAX_STATES h

pub place_ends : (n c i : ℕ) → i < MAX_STATES → place_from n c (suc i) ≤ book_words n c
place_ends n c i h = rw (place_next n c i) (place_inside n c i h)

-- a place that begins before another is one of those before it
pub place_lower : (n c i j : ℕ) → place_from n c i < place_from n c j → i < j
place_lower n c i j h = go (dec_lt i j)
  where
    go : Dec (i < j) → i < j
    go (yes l) = l
    go (no l) = absurd (omega (arith, level j i (place_words n c) (omega arith)))

pub place_higher : (n c i j : ℕ) → (i ≡ j → ⊥) → place_from n c i ≤ place_from n c j → i < j
place_higher n c i j z h = go (dec_lt i j)
  where
    go : Dec (i < j) → i < j
    go (yes l) = l
    go (no l) = absurd (omega (arith, before j i (place_words n c) (omega arith)))

-- a word before a part that was written
pub word_before : (a k j : ℕ) (xs ys : List ℕ) → j < a → a ≤ length xs → get_or (put_mid a k xs ys) j 0 ≡ get_or xs j 0
word_before a k j xs ys h g =
    sym (get_or-take a (put_mid a k xs ys) j 0 h) ∙ (ap (λ (l : List ℕ). get_or l j 0) (take_put a k xs ys g) ∙ get_or-take a xs j 0 h)

pub mid_mid : (b j w : ℕ) (xs : List ℕ) → b + j ≤ w → w ≤ length xs → mid_of b j (take w xs) ≡ mid_of b j xs
mid_mid b j w xs h g = sym (ap (mid_of b j) (append-nil (take w xs))) ∙ part_before b j w xs [] h g
