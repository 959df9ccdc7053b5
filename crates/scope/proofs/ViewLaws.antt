-- Laws of views that the others use: choices, inversions, what a link leaves, containment. Assumes nothing.
use mathlib.Core.Path.{◌≡◌, refl, ap, ◌∙◌}
use mathlib.Core.List.{Memᴰ}
use mathlib.Core.Bool.{Bool, true, false}
use mathlib.Core.Logic.{◌≢◌, ◌⊎◌, inl, inr}
use Prim.Native.Nat.{ℕ, ◌<◌}
use native.Mathlib.Omega.{arith}
use native.Mathlib.Decide.{ℕ_discrete}
use Rattle.scope.specs.Base.{xor}
use Rattle.scope.specs.Types.{Ty, ty, flip}
use Rattle.scope.specs.Nodes.{Kind}
use Rattle.scope.proofs.View.{VState, unknown, known, View, sel, link, Below, one, more, Fin, fin}

pub sel_yes {ℓ ℓ'} : {A : Type ℓ} {B : Type ℓ'} (d : Dec A) (x y : B) → A → sel d x y ≡ x
sel_yes (yes a) x y h = refl
sel_yes (no n) x y h = absurd (n h)

pub sel_no {ℓ ℓ'} : {A : Type ℓ} {B : Type ℓ'} (d : Dec A) (x y : B) → ¬ A → sel d x y ≡ y
sel_no (yes a) x y h = absurd (h a)
sel_no (no n) x y h = refl

pub same? : (x y : ℕ) → (x ≡ y) ⊎ (x ≢ y)
same? x y = elim (ℕ_discrete x y) [ yes e ↦ inl e | no n ↦ inr n ]

pub idx_eq : {s t : Ty} → s ≡ t → s.idx ≡ t.idx
idx_eq e = ap (λ (t : Ty). t.idx) e

pub not_known : {i : Bool} {k : Kind} → unknown ≡ known i k → ⊥
not_known {i} {k} e = let z : ◌≡◌ {A = ℕ} 0 1 = cc in omega arith

pub xor_assoc : (a b c : Bool) → xor (xor a b) c ≡ xor a (xor b c)
xor_assoc false b c = refl
xor_assoc true false c = refl
xor_assoc true true false = refl
xor_assoc true true true = refl

pub xor_false : (a : Bool) → xor a false ≡ a
xor_false false = refl
xor_false true = refl

pub xor_self : (a : Bool) → xor a a ≡ false
xor_self false = refl
xor_self true = refl

pub xor_twice : (a b : Bool) → xor a (xor a b) ≡ b
xor_twice false b = refl
xor_twice true false = refl
xor_twice true true = refl

pub xor_comm : (a b : Bool) → xor a b ≡ xor b a
xor_comm false false = refl
xor_comm false true = refl
xor_comm true false = refl
xor_comm true true = refl

pub flip_flip : (a b : Bool) (t : Ty) → flip (xor a b) t ≡ flip a (flip b t)
flip_flip a b t = ap (λ (c : Bool). ty c t.idx) (xor_assoc a b t.inv)

pub below_join : {g : View} {a x y : ℕ} → Below g a x → Below g x y → Below g a y
below_join (one k) b = more k b
below_join (more k c) b = more k (below_join c b)

-- nothing contains itself
pub irrefl : {g : View} {a : ℕ} → Fin g a → Below g a a → ⊥
irrefl {g} {a} (fin f) (one k) = irrefl (f a k) (one k)
irrefl {g} {a} (fin f) (more {y = y} k b) = irrefl (f y k) (below_join b (one k))

module _ (g : View) (w l : ℕ) (i : Bool) (k : VState) where
  pub rep_hit : (n : ℕ) → (g.rep n).idx ≡ l → (link g w l i k).rep n ≡ ty (xor (g.rep n).inv i) w
  unfolding link
  rep_hit n h = sel_yes (ℕ_discrete (g.rep n).idx l) _ _ h

  pub rep_miss : (n : ℕ) → (g.rep n).idx ≢ l → (link g w l i k).rep n ≡ g.rep n
  unfolding link
  rep_miss n h = sel_no (ℕ_discrete (g.rep n).idx l) _ _ h

  pub st_w : (link g w l i k).st w ≡ k
  unfolding link
  st_w = sel_yes (ℕ_discrete w w) _ _ refl

  pub st_l : l ≢ w → (link g w l i k).st l ≡ unknown
  unfolding link
  st_l h = sel_no (ℕ_discrete l w) _ _ h ∙ sel_yes (ℕ_discrete l l) _ _ refl

  pub st_other : (n : ℕ) → n ≢ w → n ≢ l → (link g w l i k).st n ≡ g.st n
  unfolding link
  st_other n h h' = sel_no (ℕ_discrete n w) _ _ h ∙ sel_no (ℕ_discrete n l) _ _ h'

-- P holds of every known kind
abbrev pub Kinds : (Kind → Type 0) → View → Type 0
Kinds P g = (a : ℕ) (i : Bool) (k : Kind) → g.st a ≡ known i k → P k

-- the children of every kind are nodes below n
abbrev pub Held : ℕ → View → Type 0
Held n = Kinds (λ k. (t : Ty) → Memᴰ t k.kids → t.idx < n)

-- a kind of which C holds, over nodes below n
pub record Fine (n : ℕ) (C : Kind → Type 0) (k : Kind) : Type 0 where
  pub made : C k
  pub kids : (t : Ty) → Memᴰ t k.kids → t.idx < n
