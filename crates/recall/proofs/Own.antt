-- With `words_for n` words a pair's number is below the number of entries, so that no two pairs share one: the number's quotient and rest are the two types' codes.
-- Assumes nothing.
use mathlib.Core.Path.{◌≡◌, refl, ap, sym, ◌∙◌}
use mathlib.Core.Bool.{Bool, true, false}
use mathlib.Core.List.{List}
use Prim.Native.Nat.{ℕ, suc, ◌+◌, ◌*◌, ◌≤◌, ◌<◌}
use native.Mathlib.Omega.{arith}
use native.Mathlib.Nat.{mod-eq_of_lt, mul-le-mul_right}
use native.Mathlib.Decide.{dec_lt}
use lib.ListN.{length}
use Rattle.scope.specs.Base.{pick}
use Rattle.scope.specs.Types.{Ty}
use Rattle.recall.specs.Memory.{words_for}
use Rattle.recall.specs.Places.{code_of, slot_of, entries}
use Rattle.recall.specs.Own.{Own, EachItsOwn, NeverLast}

abbrev code : Bool → ℕ → ℕ
code v i = pick v (2 * i + 1) (2 * i)

code_below : (n : ℕ) (v : Bool) (i : ℕ) → i < n → code v i < 2 * n
code_below n true i h = omega arith
code_below n false i h = omega arith

code_own : (v w : Bool) (i j : ℕ) → code v i ≡ code w j → (v ≡ w) × (i ≡ j)
code_own true true i j e = (refl, omega arith)
code_own true false i j e = absurd (omega arith)
code_own false true i j e = absurd (omega arith)
code_own false false i j e = (refl, omega arith)

type_own : (a b : Ty) → code_of a ≡ code_of b → a ≡ b
type_own a b e = let w = code_own a.inv b.inv a.idx b.idx e in λ i. record { inv = w.0 i; idx = w.1 i }

-- a quotient and a rest
parts_own : (k x y x' y' : ℕ) → y < k → y' < k → x * k + y ≡ x' * k + y' → (x ≡ x') × (y ≡ y')
parts_own k x y x' y' h h' e = go (dec_lt x x') (dec_lt x' x)
  where
    go : Dec (x < x') → Dec (x' < x) → (x ≡ x') × (y ≡ y')
    go (yes l) d = absurd (omega (arith, mul-le-mul_right k l))
    go (no l) (yes g) = absurd (omega (arith, mul-le-mul_right k g))
    go (no l) (no g) = let q : x ≡ x' = omega arith in (q, omega (arith, ap (λ (z : ℕ). z * k) q))

module _ (m : List ℕ) (n : ℕ) (long : words_for n ≤ length m) where
  pair_below : (a b : Ty) → a.idx < n → b.idx < n → code_of a * (2 * n) + code_of b < entries m
  pair_below a b ha hb =
      let r : suc (code_of a) * (2 * n) ≤ 2 * n * (2 * n) = mul-le-mul_right (2 * n) (code_below n a.inv a.idx ha) in
      let k : 2 * n * (2 * n) ≤ entries m = omega arith in
      omega (arith, r, k, code_below n b.inv b.idx hb)

  slot_is : (a b : Ty) → a.idx < n → b.idx < n → slot_of (entries m) n a b ≡ code_of a * (2 * n) + code_of b
  slot_is a b ha hb = mod-eq_of_lt (pair_below a b ha hb)

  own : Own m n
  own = record {
    apart = λ a b c d ha hb hc hd e.
        let w = parts_own (2 * n) (code_of a) (code_of b) (code_of c) (code_of d) (code_below n b.inv b.idx hb) (code_below n d.inv d.idx hd)
        (sym (slot_is a b ha hb) ∙ (e ∙ slot_is c d hc hd)) in
        (type_own a c w.0, type_own b d w.1);
    fits = λ a b ha hb. omega (arith, slot_is a b ha hb, pair_below a b ha hb);
  }

pub each_its_own : EachItsOwn
each_its_own m n h = own m n h

pub never_last : NeverLast
never_last n h = omega (arith, mul-le-mul_right (n + 1) h)
