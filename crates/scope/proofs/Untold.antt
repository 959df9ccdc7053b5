-- The pairs of types of n nodes of which a memory tells nothing now, counted: at most all pairs, and one less for each that is noted. Assumes nothing.
use mathlib.Core.Path.{◌≡◌, refl}
use mathlib.Core.List.{List, [], ◌∷◌, Memᴰ}
use mathlib.Core.Bool.{Bool, true, false, not}
use mathlib.Core.Logic.{◌≢◌, ◌⊎◌, inl, inr}
use Prim.Native.Nat.{ℕ, zero, suc, ◌+◌, ◌*◌, ◌≤◌, ◌<◌}
use native.Mathlib.Omega.{arith}
use lib.ListN.{length}
use Rattle.scope.specs.Base.{count, is_some}
use Rattle.scope.specs.Types.{Ty, ty}
use Rattle.scope.specs.Recall.{Memory, look}
use Rattle.scope.specs.Visits.{pairs_of}
use Rattle.scope.proofs.ViewLaws.{same?}
use Rattle.scope.proofs.TestLaws.{count_le, count_lt, count_apart}

-- how many pairs of two lists pass a test
rows : (Ty → Ty → Bool) → List Ty → List Ty → ℕ
rows p [] us = 0
rows p (t ∷ ts) us = count (p t) us + rows p ts us

rows_most : (p : Ty → Ty → Bool) (ts us : List Ty) → rows p ts us ≤ length ts * length us
unfolding rows
rows_most p [] us = omega arith
rows_most p (t ∷ ts) us = omega (arith, count_apart (p t) (λ u. false) (λ u h. refl) us, rows_most p ts us)

module _ (p q : Ty → Ty → Bool) (less : (t u : Ty) → p t u ≡ true → q t u ≡ true) where
  rows_le : (ts us : List Ty) → rows p ts us ≤ rows q ts us
  unfolding rows
  rows_le [] us = omega arith
  rows_le (t ∷ ts) us = omega (arith, count_le (p t) (q t) (less t) us, rows_le ts us)

  rows_lt : (ts us : List Ty) {t u : Ty} → Memᴰ t ts → Memᴰ u us → p t u ≡ false → q t u ≡ true → rows p ts us < rows q ts us
  unfolding rows
  rows_lt [] us {t = t} {u = u} l m f g = elim l [ ]
  rows_lt (v ∷ ts) us {t} {u} (Memᴰ.head e) m f g =
      omega (arith, count_lt (p v) (q v) (less v) us m (rw e at f) (rw e at g), rows_le ts us)
  rows_lt (v ∷ ts) us (Memᴰ.tail l) m f g = omega (arith, count_le (p v) (q v) (less v) us, rows_lt ts us l m f g)

-- all types of n nodes
types : ℕ → List Ty
types zero = []
types (suc n) = ty false n ∷ ty true n ∷ types n

types_length : (n : ℕ) → length (types n) ≡ 2 * n
unfolding types
types_length zero = refl
types_length (suc n) = omega (arith, types_length n)

types_all : (n : ℕ) (t : Ty) → t.idx < n → Memᴰ t (types n)
unfolding types
types_all zero t h = absurd (omega arith)
types_all (suc n) t h = go t.inv refl (same? t.idx n) (types_all n t)
  where
    go : (b : Bool) → t.inv ≡ b → (t.idx ≡ n) ⊎ (t.idx ≢ n) → (t.idx < n → Memᴰ t (types n)) → Memᴰ t (ty false n ∷ ty true n ∷ types n)
    go b e (inr q) ih = Memᴰ.tail (Memᴰ.tail (ih (omega arith)))
    go false e (inl q) ih = Memᴰ.head (λ i. record { inv = e i; idx = q i })
    go true e (inl q) ih = Memᴰ.tail (Memᴰ.head (λ i. record { inv = e i; idx = q i }))

-- nothing is told of two roots now
abbrev pub silent : Memory → Ty → Ty → Bool
silent m a b = not (is_some (look m a b))

pub untold : ℕ → Memory → ℕ
untold n m = rows (silent m) (types n) (types n)

pub untold_most : (n : ℕ) (m : Memory) → untold n m ≤ pairs_of n
unfolding untold
untold_most n m = rw (← types_length n) (rows_most (silent m) (types n) (types n))

-- m' tells whatever m tells
module _ (n : ℕ) (m m' : Memory) (more : (a b : Ty) → silent m' a b ≡ true → silent m a b ≡ true) where
  pub untold_le : untold n m' ≤ untold n m
  unfolding untold
  untold_le = rows_le (silent m') (silent m) more (types n) (types n)

  pub untold_lt : (a b : Ty) → a.idx < n → b.idx < n → silent m' a b ≡ false → silent m a b ≡ true → untold n m' < untold n m
  unfolding untold
  untold_lt a b ha hb f g = rows_lt (silent m') (silent m) more (types n) (types n) (types_all n a ha) (types_all n b hb) f g
