-- What a test in the code says of a definition's test: a call's answer r is the definition's t. A test of every element is one of every number.
-- Assumes nothing.
use mathlib.Core.Path.{◌≡◌, refl, sym, ◌∙◌, ap}
use mathlib.Core.Bool.{Bool, true, false, not, ◌&&◌, and-eq-true_iff}
use mathlib.Core.List.{List, [], ◌∷◌}
use Prim.Native.Nat.{ℕ, zero, suc, ◌+◌, ◌<◌}
use native.Mathlib.Omega.{arith}
use lib.ListN.{length, get_or}
use borrow.Author.Tests.{not-true, not-false}
use Rattle.std.specs.List.{list_all, range_with_len}
use Rattle.scope.specs.Base.{all}

pub passes : {r t : Bool} → r ≡ t → not r ≡ false → t ≡ true
passes {r} e h = sym e ∙ not-false r h

pub fails : {r t : Bool} → r ≡ t → not r ≡ true → t ≡ false
fails {r} e h = sym e ∙ not-true r h

pub both : (s t : Bool) → (s && t) ≡ true → (s ≡ true) × (t ≡ true)
both s t h = (and-eq-true_iff s t).0 h

-- a test of every element
pub all_at : {A : Type 0} (p : A → Bool) (xs : List A) (d : A) (i : ℕ) → all p xs ≡ true → i < length xs → p (get_or xs i d) ≡ true
all_at p [] d i e h = absurd (omega arith)
all_at p (x ∷ xs) d zero e h = (both (p x) (all p xs) e).0
all_at p (x ∷ xs) d (suc i) e h = all_at p xs d i (both (p x) (all p xs) e).1 (omega arith)

-- a test of every element, by its number
numbers_from : {A : Type 0} (p : A → Bool) (xs : List A) (d : A) (t : ℕ → Bool) (i : ℕ) → ((k : ℕ) → k < length xs → t (i + k) ≡ p (get_or xs k d))
    → list_all t (range_with_len i (length xs)) ≡ all p xs
numbers_from p [] d t i e = refl
numbers_from p (x ∷ xs) d t i e =
    let z : i + 0 ≡ i = omega arith in
    let first : t i ≡ p x = ap t (sym z) ∙ e 0 (omega arith) in
    let next : (k : ℕ) → k < length xs → t (i + 1 + k) ≡ p (get_or xs k d) =
    λ k h.
    let y : i + 1 + k ≡ i + suc k = omega arith in
    ap t y ∙ e (suc k) (omega arith) in
    rw (first, numbers_from p xs d t (i + 1) next) refl

pub all_numbers : {A : Type 0} (p : A → Bool) (xs : List A) (d : A) (t : ℕ → Bool) → ((k : ℕ) → k < length xs → t k ≡ p (get_or xs k d))
    → list_all t (range_with_len 0 (length xs)) ≡ all p xs
all_numbers p xs d t e =
    numbers_from p xs d t 0
    (λ k h. let z : 0 + k ≡ k = omega arith in ap t z ∙ e k h)
