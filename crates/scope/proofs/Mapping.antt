-- What an import uses of its source and leaves alone of its destination, and its mapping: each source root once, its node the next one. Assumes
-- nothing.
use mathlib.Core.Path.{◌≡◌, refl, sym, ap, ◌∙◌}
use mathlib.Core.List.Memᴰ
use mathlib.Core.List.{List, [], ◌∷◌, Memᴰ}
use mathlib.Core.Bool.{Bool, true, false}
use mathlib.Core.Option.{none, some}
use mathlib.Core.Logic.{◌⊎◌, inl, inr}
use Prim.Native.Nat.{ℕ, ◌+◌, ◌≤◌, ◌<◌}
use native.Mathlib.Omega.{arith}
use native.Mathlib.Decide.{ℕ_discrete}
use lib.Dec.{eqb}
use lib.ListN.{length}
use borrow.Author.Tests.{eqb-true, eqb-false}
use Rattle.scope.specs.Base.{pick}
use Rattle.scope.specs.Types.{Ty}
use Rattle.scope.specs.Nodes.{Node, Store, at, state_of, find, kids_of}
use Rattle.scope.specs.Sound.{falls}
use Rattle.scope.specs.Import.{copy_of}

-- what an import changes no part of
pub record Rest (s d : Store) : Type 0 where
  pub node_room : d.node_room ≡ s.node_room
  pub child_room : d.child_room ≡ s.child_room
  pub error : d.error ≡ s.error
  pub nil : d.nil ≡ s.nil
  pub reports : d.reports ≡ s.reports

-- what is used of the source
pub record Source (ns : List Node) : Type 0 where
  pub inside : (t : Ty) → t.idx < length ns → (find ns t).idx < length ns
  pub kids : (r : ℕ) (c : Ty) → Memᴰ c (kids_of (state_of (at ns r))) → c.idx < length ns
  pub falling : (r : ℕ) → r < length ns → falls (length ns) ns r ≡ true

-- the mapping: each root once, its node the next one after the b that were there
pub data Tally (b : ℕ) : List (ℕ × ℕ) → Type 0 where
  tnil : Tally b []
  tcons : {p : ℕ × ℕ} {l : List (ℕ × ℕ)} → copy_of l p.0 ≡ none → p.1 ≡ b + length l → Tally b l → Tally b (p ∷ l)

abbrev pub Maps : List (ℕ × ℕ) → ℕ → ℕ → Type 0
Maps l r n = Memᴰ {A = ℕ × ℕ} (r, n) l

pub copy_maps : (l : List (ℕ × ℕ)) (r n : ℕ) → copy_of l r ≡ some n → Maps l r n
unfolding copy_of
copy_maps [] r n e = let z : ◌≡◌ {A = ℕ} 0 1 = cc in absurd (omega arith)
copy_maps (p ∷ l) r n e = go (eqb p.0 r) refl e (copy_maps l r n)
  where
    go : (b : Bool) → eqb p.0 r ≡ b → pick b (some p.1) (copy_of l r) ≡ some n → (copy_of l r ≡ some n → Maps l r n) → Maps (p ∷ l) r n
    go true q e ih = let z : p.1 ≡ n = cc in Memᴰ.head (λ i. (sym (eqb-true p.0 r q) i, sym z i))
    go false q e ih = Memᴰ.tail (ih e)

pub copy_none : (l : List (ℕ × ℕ)) (r n : ℕ) → Maps l r n → copy_of l r ≡ none → ⊥
unfolding copy_of
copy_none [] r n m e = Memᴰ.not-nil m
copy_none (p ∷ l) r n m e = go (eqb p.0 r) refl e (copy_none l r n) (Memᴰ.cases_cons m)
  where
    go : (b : Bool) → eqb p.0 r ≡ b → pick b (some p.1) (copy_of l r) ≡ none → (Maps l r n → copy_of l r ≡ none → ⊥)
        → (◌≡◌ {A = ℕ × ℕ} (r, n) p) ⊎ Maps l r n → ⊥
    go true q e ih m = let z : ◌≡◌ {A = ℕ} 0 1 = cc in omega arith
    go false q e ih (inl h) = eqb-false p.0 r q (sym (ap (λ (z : ℕ × ℕ). z.0) h))
    go false q e ih (inr m) = ih m e

pub tally_range : {b : ℕ} {l : List (ℕ × ℕ)} → Tally b l → (r n : ℕ) → Maps l r n → (b ≤ n) × (n < b + length l)
tally_range tnil r n m = absurd (Memᴰ.not-nil m)
tally_range {b} (tcons {p = p} {l = l} f q t) r n (Memᴰ.head e) = let h : n ≡ p.1 = ap (λ (z : ℕ × ℕ). z.1) e in (omega arith, omega arith)
tally_range (tcons f q t) r n (Memᴰ.tail m) = let h = tally_range t r n m in (h.0, omega (arith, h.1))

-- a node is the copy of one root
pub tally_uniq : {b : ℕ} {l : List (ℕ × ℕ)} → Tally b l → (r q n : ℕ) → Maps l r n → Maps l q n → r ≡ q
tally_uniq tnil r q n m k = absurd (Memᴰ.not-nil m)
tally_uniq (tcons f h t) r q n (Memᴰ.head e) (Memᴰ.head d) = ap (λ (z : ℕ × ℕ). z.0) e ∙ sym (ap (λ (z : ℕ × ℕ). z.0) d)
tally_uniq (tcons f h t) r q n (Memᴰ.head e) (Memᴰ.tail m) = absurd (omega (arith, h, ap (λ (z : ℕ × ℕ). z.1) e, (tally_range t q n m).1))
tally_uniq (tcons f h t) r q n (Memᴰ.tail m) (Memᴰ.head e) = absurd (omega (arith, h, ap (λ (z : ℕ × ℕ). z.1) e, (tally_range t r n m).1))
tally_uniq (tcons f h t) r q n (Memᴰ.tail m) (Memᴰ.tail k) = tally_uniq t r q n m k

-- each new node is a copy
pub tally_onto : {b : ℕ} {l : List (ℕ × ℕ)} → Tally b l → (n : ℕ) → b ≤ n → n < b + length l → (r : ℕ) × Maps l r n
tally_onto tnil n p q = absurd (omega arith)
tally_onto {b} (tcons {p = p} {l = l} f h t) n u q = go (ℕ_discrete n p.1) (λ w. tally_onto t n u w)
  where
    go : Dec (n ≡ p.1) → (n < b + length l → (r : ℕ) × Maps l r n) → (r : ℕ) × Maps (p ∷ l) r n
    go (yes e) ih = (p.0, Memᴰ.head (λ i. (p.0, e i)))
    go (no e) ih = let z = ih (omega arith) in (z.0, Memᴰ.tail z.1)

-- the children of the mapping's roots
abbrev pub held : List Node → List (ℕ × ℕ) → ℕ
held ns [] = 0
held ns (p ∷ l) = length (kids_of (state_of (at ns p.0))) + held ns l
