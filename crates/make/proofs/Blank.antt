-- Words that are 0: a test over the words from a to e says the same as that each of them is 0. Words that were cleared are 0 up to where, and as
-- they were from there on.
-- Assumes nothing.
use mathlib.Core.Path.{◌≡◌, refl, ap, sym, ◌∙◌}
use mathlib.Core.Bool.{Bool, true, false}
use mathlib.Core.List.{List, [], ◌∷◌}
use Prim.Native.Nat.{ℕ, zero, suc, ◌+◌, ◌-◌, ◌<◌, ◌≤◌}
use native.Mathlib.Omega.{arith}
use lib.Dec.{eqb, ltb}
use lib.ListN.{length, get_or, drop, replicate, length-append, length-take, length-drop, length-replicate, get_or-replicate, get_or-append}
use lib.Seq.{get_or-take, get_or-drop, drop_at}
use borrow.Author.Tests.{eqb-true, eq-eqb, ltb-true, ltb-false}
use Rattle.scope.specs.Sound.{zeros}
use Rattle.layout.specs.Words.{between}
use Rattle.layout.proofs.Lists.{and_both, and_left, and_right}
use Rattle.make.specs.Header.{cleared}

-- the words from a to e are 0
abbrev pub Blank : List ℕ → ℕ → ℕ → Type 0
Blank xs a e = (i : ℕ) → a ≤ i → i < e → get_or xs i 0 ≡ 0

zeros_get : (l : List ℕ) → zeros l ≡ true → (i : ℕ) → get_or l i 0 ≡ 0
zeros_get [] z i = refl
zeros_get (x ∷ l) z zero = eqb-true x 0 (and_left (eqb x 0) (zeros l) z)
zeros_get (x ∷ l) z (suc i) = zeros_get l (and_right (eqb x 0) (zeros l) z) i

get_zeros : (l : List ℕ) → ((i : ℕ) → i < length l → get_or l i 0 ≡ 0) → zeros l ≡ true
get_zeros [] f = refl
get_zeros (x ∷ l) f =
    and_both (eqb x 0) (zeros l) (eq-eqb x 0 (f 0 (omega arith))) (get_zeros l (λ i h. f (suc i) (omega arith)))

module _ (xs : List ℕ) (a e : ℕ) where
  between_get : (i : ℕ) → i < e - a → get_or (between xs a e) i 0 ≡ get_or xs (a + i) 0
  between_get i h = get_or-take (e - a) (drop a xs) i 0 h ∙ get_or-drop a xs i 0

  pub zeros_blank : zeros (between xs a e) ≡ true → Blank xs a e
  zeros_blank z i l h =
      let q : a + (i - a) ≡ i = omega arith in
      ap (λ (j : ℕ). get_or xs j 0) (sym q) ∙ (sym (between_get (i - a) (omega arith)) ∙ zeros_get (between xs a e) z (i - a))

  pub blank_zeros : Blank xs a e → zeros (between xs a e) ≡ true
  blank_zeros b =
      get_zeros (between xs a e)
      (λ i h.
      let l : i < e - a = omega (arith, length-take (e - a) (drop a xs)) in
      between_get i l ∙ b (a + i) (omega arith) (omega arith))

-- words that agree from a on are 0 where the others are
pub blank_tail : (xs ys : List ℕ) (b a e : ℕ) → b ≤ a → drop a ys ≡ drop a xs → Blank xs b e → Blank ys a e
blank_tail xs ys b a e g q z i l h =
    let k : a + (i - a) ≡ i = omega arith in
    let there : get_or ys (a + (i - a)) 0 ≡ get_or xs (a + (i - a)) 0 =
    sym (get_or-drop a ys (i - a) 0) ∙ (ap (λ (l : List ℕ). get_or l (i - a) 0) q ∙ get_or-drop a xs (i - a) 0) in
    rw (← k) (there ∙ rw k (z i (omega arith) h))

-- cleared words

module _ (xs : List ℕ) (a : ℕ) where
  pub drop_cleared : drop a (cleared xs a) ≡ drop a xs
  drop_cleared = drop_at (replicate a 0) (drop a xs) a (length-replicate a 0)

  pub length_cleared : a ≤ length xs → length (cleared xs a) ≡ length xs
  length_cleared h = simp (length-append, length-replicate, length-drop) (omega arith)

  front_blank : (i : ℕ) → i < a → get_or (cleared xs a) i 0 ≡ 0
  front_blank i h =
      get_or-append (replicate a 0) (drop a xs) 0 i (rw length-replicate h) ∙ get_or-replicate a i 0 0 h

  by_side : (b : Bool) (e : ℕ) → Blank xs a e → (i : ℕ) → ltb i a ≡ b → i < e → get_or (cleared xs a) i 0 ≡ 0
  by_side true e z i q h = front_blank i (ltb-true i a q)
  by_side false e z i q h = blank_tail xs (cleared xs a) a a e (omega arith) drop_cleared z i (ltb-false i a q) h

  -- zeros up to a and zeros from a on are zeros
  pub blank_cleared : (e : ℕ) → Blank xs a e → Blank (cleared xs a) 0 e
  blank_cleared e z i l h = by_side (ltb i a) e z i refl h
