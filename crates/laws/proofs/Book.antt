-- Laws of a names buffer that no proof of a function needs: a part of a part of a list is a part of the list, read and written; and so a part of a place is a part
-- of the buffer.
-- Assumes nothing.
use mathlib.Core.Path.{◌≡◌, ap, sym, ◌∙◌}
use mathlib.Core.List.{List, ◌++◌, append_assoc}
use Prim.Native.Nat.{ℕ, ◌+◌, ◌<◌, ◌≤◌}
use native.Mathlib.Omega.{arith}
use lib.ListN.{length, take, drop, take-append-drop, length-drop}
use lib.Seq.{drop-drop, take-take, take-add, drop-append-le, length-take-le}
use borrow.Rule.Slice.PartMut.{mid_of, put_mid}
use Rattle.scope.specs.Limits.{MAX_STATES}
use Rattle.book.specs.Words.{place_from, place_words, book_words, place_at}
use Rattle.book.specs.Places.{put_place}
use Rattle.book.proofs.Geometry.{place_span, place_inside, mid_mid}

-- parts of parts

module _ (a w b j : ℕ) (xs : List ℕ) (inner : b + j ≤ w) (outer : a + w ≤ length xs) where
  pub mid_within : mid_of b j (mid_of a w xs) ≡ mid_of (a + b) j xs
  mid_within = mid_mid b j w (drop a xs) inner (simp length-drop (omega arith)) ∙ ap (take j) (drop-drop b a xs)

  -- what lies behind the inner part
  behind : drop j (drop b (mid_of a w xs)) ++ drop w (drop a xs) ≡ drop j (drop (a + b) xs)
  behind =
      let m : List ℕ = mid_of a w xs in
      let l : length m ≡ w = length-take-le w (drop a xs) (simp length-drop (omega arith)) in
      let f : drop (b + j) (m ++ drop w (drop a xs)) ≡ drop (b + j) m ++ drop w (drop a xs) = drop-append-le (b + j) m (drop w (drop a xs)) (omega arith) in
      let q : a + (b + j) ≡ a + b + j = omega arith in
      rw (drop-drop j b m) (sym f ∙ (ap (drop (b + j)) (take-append-drop w (drop a xs))
      ∙ (drop-drop (b + j) a xs ∙ (ap (λ (k : ℕ). drop k xs) q ∙ sym (drop-drop j (a + b) xs)))))

  pub put_within : (ys : List ℕ) → put_mid (a + b) j xs ys ≡ put_mid a w xs (put_mid b j (mid_of a w xs) ys)
  put_within ys =
      let m : List ℕ = mid_of a w xs in
      let r : List ℕ = drop w (drop a xs) in
      let f : take (a + b) xs ≡ take a xs ++ take b m = take-add a b xs ∙ ap (λ (l : List ℕ). take a xs ++ l) (sym (take-take b w (drop a xs) (omega arith))) in
      let g : (take b m ++ (ys ++ drop j (drop b m))) ++ r ≡ take b m ++ (ys ++ drop j (drop (a + b) xs)) =
      append_assoc (take b m) (ys ++ drop j (drop b m)) r
      ∙ ap (λ (l : List ℕ). take b m ++ l) (append_assoc ys (drop j (drop b m)) r ∙ ap (λ (l : List ℕ). ys ++ l) behind) in
      ap (λ (l : List ℕ). l ++ (ys ++ drop j (drop (a + b) xs))) f
      ∙ (append_assoc (take a xs) (take b m) (ys ++ drop j (drop (a + b) xs)) ∙ ap (λ (l : List ℕ). take a xs ++ l) (sym g))

-- parts of places

module _ (bs : List ℕ) (n c i : ℕ) (words : book_words n c ≤ length bs) (lies : i < MAX_STATES) where
  fits : place_from n c i + place_words n c ≤ length bs
  fits = let h = place_inside n c i lies in omega arith

  -- part b to b + k of the place, as a part of the whole
  pub part_of_place : (b k : ℕ) → b + k ≤ place_words n c → mid_of b k (place_at bs n c i) ≡ mid_of (place_from n c i + b) k bs
  part_of_place b k h = rw (place_span n c i) (mid_within (place_from n c i) (place_words n c) b k bs h fits)

  -- and written as one
  pub put_of_place : (b k : ℕ) (ys : List ℕ) → b + k ≤ place_words n c
      → put_mid (place_from n c i + b) k bs ys ≡ put_place bs n c i (put_mid b k (place_at bs n c i) ys)
  put_of_place b k ys h = rw (place_span n c i) (put_within (place_from n c i) (place_words n c) b k bs h fits ys)
