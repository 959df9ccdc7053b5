-- What a false of `occurs` and a true of `self_inverse` mean, whatever the depth. Assumes nothing.
use mathlib.Core.Path.{◌≡◌, refl, sym, ap, subst, ◌∙◌}
use mathlib.Core.List.{Memᴰ}
use mathlib.Core.Bool.{Bool, true, false, ◌&&◌}
use mathlib.Core.Logic.{◌≢◌, ◌⊎◌, inl, inr}
use Prim.Native.Nat.{ℕ, zero, suc}
use native.Mathlib.Decide.{ℕ_discrete}
use lib.Dec.{eqb}
use borrow.Author.Tests.{eqb-true}
use Rattle.scope.specs.Base.{pick, all}
use Rattle.scope.specs.Types.{Ty}
use Rattle.scope.specs.Kinds.{Head, self_dual, row_of, PARAM}
use Rattle.scope.specs.Nodes.{Kind}
use Rattle.scope.proofs.TestLaws.{tf, and_left, and_right, of-all, any_no}
use Rattle.scope.proofs.View.{VState, unknown, known, View, Below, one, more, occurs, occurs_st, self_st, self_inverse}
use Rattle.scope.proofs.ViewLaws.{same?, sel_yes, sel_no}
use Rattle.scope.proofs.Grow.{ri, Self, self}

pub occurs_no : (f : ℕ) (g : View) (x y : ℕ) → occurs f g x y ≡ false → (y ≢ x) × (Below g y x → ⊥)
unfolding occurs
occurs_no zero g x y e = tf e
occurs_no (suc f) g x y e = go (same? y x) (λ z. occurs_no f g x z)
  where
    t : Ty → Bool
    t c = occurs f g x (g.rep c.idx).idx

    go : (y ≡ x) ⊎ (y ≢ x) → ((z : ℕ) → occurs f g x z ≡ false → (z ≢ x) × (Below g z x → ⊥)) → (y ≢ x) × (Below g y x → ⊥)
    go (inl h) ih = tf (sym (sel_yes (ℕ_discrete y x) true (occurs_st t (g.st y)) h) ∙ e)
    go (inr n) ih = (n, not_below)
      where
        none : (c : Ty) (i : Bool) (k : Kind) → g.st y ≡ known i k → Memᴰ c k.kids → occurs f g x (ri g c) ≡ false
        none c i k s m = any_no t k.kids (ap (occurs_st t) (sym s) ∙ sym (sel_no (ℕ_discrete y x) true (occurs_st t (g.st y)) n) ∙ e) m

        not_below : Below g y x → ⊥
        not_below (one c) = (ih (ri g c.kid) (none c.kid c.inv c.kind c.state c.mem)).0 c.to
        not_below (more c b) = (ih (ri g c.kid) (none c.kid c.inv c.kind c.state c.mem)).1
            (subst (λ (z : ℕ). Below g z x) (sym c.to) b)

pub param_dual : (h : Head) → h.code ≡ PARAM → self_dual h ≡ false
unfolding self_dual row_of
param_dual h e = rw e

-- a Param is not self-dual, so that unify's test needs no word on it
pub self_kind : (t : Ty → Bool) (i : Bool) (k : Kind) → self_st false t (known i k) ≡ (self_dual k.head && all t k.kids)
self_kind t i k = go (eqb k.head.code PARAM) refl
  where
    go : (b : Bool) → eqb k.head.code PARAM ≡ b → pick b false (self_dual k.head && all t k.kids) ≡ (self_dual k.head && all t k.kids)
    go true e = sym (ap (λ (d : Bool). d && all t k.kids) (param_dual k.head (eqb-true k.head.code PARAM e)))
    go false e = refl

pub self_sound : (f : ℕ) (g : View) (a : ℕ) → self_inverse false f g a ≡ true → Self g a
unfolding self_inverse
self_sound zero g a e = tf (sym e)
self_sound (suc f) g a e = go (g.st a) refl e (λ z. self_sound f g z)
  where
    t : Ty → Bool
    t c = self_inverse false f g (g.rep c.idx).idx

    go : (s : VState) → g.st a ≡ s → self_st false t s ≡ true → ((z : ℕ) → self_inverse false f g z ≡ true → Self g z) → Self g a
    go unknown q e ih = tf (sym e)
    go (known i k) q e ih =
        let h : (self_dual k.head && all t k.kids) ≡ true = sym (self_kind t i k) ∙ e in
        self i k q (and_left (self_dual k.head) (all t k.kids) h) (λ x m. ih (ri g x) (of-all t k.kids (and_right (self_dual k.head) (all t k.kids) h) m))
