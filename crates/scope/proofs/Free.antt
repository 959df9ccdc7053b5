-- How many numbers below n are not in a list: a chain of different numbers ends before they run out. Assumes nothing.
use mathlib.Core.Path.{◌≡◌, refl, sym, subst}
use mathlib.Core.List.{List, [], ◌∷◌}
use mathlib.Core.Bool.{Bool, true, false}
use mathlib.Core.Logic.{◌≢◌, ◌⊎◌, inl, inr}
use Prim.Native.Nat.{ℕ, zero, suc, ◌+◌, ◌≤◌, ◌<◌}
use native.Mathlib.Nat.{not-suc-le-zero}
use native.Mathlib.Omega.{arith}
use native.Mathlib.Decide.{ℕ_discrete}
use Rattle.scope.proofs.View.{sel}
use Rattle.scope.proofs.ViewLaws.{same?, sel_yes, sel_no}
use Rattle.scope.proofs.TestLaws.{tf}

pub memb : ℕ → List ℕ → Bool
memb x [] = false
memb x (y ∷ ys) = sel (ℕ_discrete x y) true (memb x ys)

pub memb_none : (x : ℕ) → memb x [] ≡ false
unfolding memb
memb_none x = refl

pub memb_more : (x y : ℕ) (ys : List ℕ) → x ≢ y → memb x ys ≡ false → memb x (y ∷ ys) ≡ false
unfolding memb
memb_more x y ys h e = rw (sel_no (ℕ_discrete x y) true (memb x ys) h) e

pub memb_first : (x : ℕ) (ys : List ℕ) → memb x (x ∷ ys) ≡ true
unfolding memb
memb_first x ys = sel_yes (ℕ_discrete x x) true (memb x ys) refl

pub memb_rest : (x y : ℕ) (ys : List ℕ) → memb x (y ∷ ys) ≡ false → memb x ys ≡ false
unfolding memb
memb_rest x y ys = go (ℕ_discrete x y)
  where
    go : (d : Dec (x ≡ y)) → sel d true (memb x ys) ≡ false → memb x ys ≡ false
    go (yes e) h = tf h
    go (no e) h = h

weigh : Bool → ℕ
weigh true = 0
weigh false = 1

pub free : ℕ → List ℕ → ℕ
free zero l = 0
free (suc n) l = weigh (memb n l) + free n l

pub free_nil : (n : ℕ) → free n [] ≤ n
unfolding free memb weigh
free_nil zero = omega arith
free_nil (suc n) = omega (arith, free_nil n)

weigh_more : (y n : ℕ) (l : List ℕ) → weigh (memb n (y ∷ l)) ≤ weigh (memb n l)
unfolding memb weigh
weigh_more y n l = go (ℕ_discrete n y)
  where
    go : (d : Dec (n ≡ y)) → weigh (sel d true (memb n l)) ≤ weigh (memb n l)
    go (yes e) = omega arith
    go (no e) = omega arith

free_le : (y n : ℕ) (l : List ℕ) → free n (y ∷ l) ≤ free n l
unfolding free
free_le y zero l = omega arith
free_le y (suc n) l = omega (arith, weigh_more y n l, free_le y n l)

pub free_most : (n : ℕ) (l : List ℕ) → free n l ≤ n
free_most n [] = free_nil n
free_most n (y ∷ l) = omega (arith, free_le y n l, free_most n l)

weigh_new : (n : ℕ) (l : List ℕ) → memb n l ≡ false → weigh (memb n (n ∷ l)) < weigh (memb n l)
unfolding memb weigh
weigh_new n l e = rw (sel_yes (ℕ_discrete n n) true (memb n l) refl, e) (omega arith)

-- one more number in the list
pub free_lt : (y n : ℕ) (l : List ℕ) → y < n → memb y l ≡ false → free n (y ∷ l) < free n l
unfolding free
free_lt y zero l h e = absurd (not-suc-le-zero h)
free_lt y (suc n) l h e = go (λ q. free_lt y n l q e) (same? y n)
  where
    go : (y < n → free n (y ∷ l) < free n l) → (y ≡ n) ⊎ (y ≢ n) → weigh (memb n (y ∷ l)) + free n (y ∷ l) < weigh (memb n l) + free n l
    go ih (inl q) = omega (arith, subst (λ (x : ℕ). weigh (memb n (x ∷ l)) < weigh (memb n l)) (sym q) (weigh_new n l (subst (λ (x : ℕ). memb x l ≡ false) q e)), free_le y n l)
    go ih (inr q) = omega (arith, weigh_more y n l, ih (omega arith))
