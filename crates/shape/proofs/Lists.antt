-- Tests and counts over the numbers from i on: a test fails somewhere or nowhere, and a test that holds of one number more counts one more.
-- Assumes nothing.
use mathlib.Core.Path.{◌≡◌, refl, sym}
use mathlib.Core.Bool.{Bool, true, false, ◌&&◌, false≢true}
use Prim.Native.Nat.{ℕ, zero, suc, ◌+◌, ◌≤◌, ◌<◌}
use native.Mathlib.Decide.{ℕ_discrete}
use native.Mathlib.Omega.{arith}
use Rattle.scope.specs.Base.{pick, all, count, from}
use Rattle.scope.proofs.TestLaws.{one_le}

-- all

-- a number at which the test fails
abbrev pub Fails : (ℕ → Bool) → ℕ → ℕ → Type 0
Fails p i n = (j : ℕ) × (i ≤ j) × (j < i + n) × (p j ≡ false)

pub all_find : (p : ℕ → Bool) (i n : ℕ) → all p (from i n) ≡ false → Fails p i n
all_find p i zero e = absurd (false≢true (sym e))
all_find p i (suc n) e = go (p i) refl e (all_find p (suc i) n)
  where
    go : (b : Bool) → p i ≡ b → (b && all p (from (suc i) n)) ≡ false → (all p (from (suc i) n) ≡ false → Fails p (suc i) n) → Fails p i (suc n)
    go true f h r = let w = r h in (w.0, omega (arith, w.1), omega (arith, w.2), w.3)
    go false f h r = (i, omega arith, omega arith, f)

pub all_same : (p q : ℕ → Bool) (i n : ℕ) → ((j : ℕ) → i ≤ j → j < i + n → p j ≡ q j) → all p (from i n) ≡ all q (from i n)
all_same p q i zero e = refl
all_same p q i (suc n) e = rw (e i (omega arith) (omega arith), all_same p q (suc i) n (λ j a b. e j (omega arith) (omega arith)))

-- count

pick_most : (b : Bool) → pick b 1 0 ≤ 1
pick_most true = omega arith
pick_most false = omega arith

pub count_most : (p : ℕ → Bool) (i n : ℕ) → count p (from i n) ≤ n
count_most p i zero = omega arith
count_most p i (suc n) = omega (arith, pick_most (p i), count_most p (suc i) n)

-- the last of them
pub count_last : (p : ℕ → Bool) (i n : ℕ) → count p (from i (suc n)) ≡ count p (from i n) + pick (p (i + n)) 1 0
count_last p i zero = let z : i + 0 ≡ i = omega arith in rw z (omega arith)
count_last p i (suc n) =
    let z : suc i + n ≡ i + suc n = omega arith in
    rw (← z) (omega (arith, count_last p (suc i) n))

module _ (p q : ℕ → Bool) (grows : (j : ℕ) → p j ≡ true → q j ≡ true) where
  count_grows : (i n : ℕ) → count p (from i n) ≤ count q (from i n)
  count_grows i zero = omega arith
  count_grows i (suc n) = omega (arith, one_le (p i) (q i) (grows i), count_grows (suc i) n)

  -- one number more passes the test
  pub count_more : (i n v : ℕ) → i ≤ v → v < i + n → p v ≡ false → q v ≡ true → count p (from i n) < count q (from i n)
  count_more i zero v a b e f = absurd (omega arith)
  count_more i (suc n) v a b e f = go (ℕ_discrete v i) (λ l. count_more (suc i) n v l (omega arith) e f)
    where
      go : Dec (v ≡ i) → (suc i ≤ v → count p (from (suc i) n) < count q (from (suc i) n)) → count p (from i (suc n)) < count q (from i (suc n))
      go (yes z) h =
          let x : p i ≡ false = rw z at e in
          let y : q i ≡ true = rw z at f in
          rw (x, y) (omega (arith, count_grows (suc i) n))
      go (no z) h = omega (arith, one_le (p i) (q i) (grows i), h (omega arith))
