-- `occurs` and `self_inverse` with depth enough: the first says true only of what is contained, the second finds every root that is self-inverse
-- by its kinds. So a joined pair gets Success at once. Assumes nothing.
use mathlib.Core.Path.{◌≡◌, refl, sym, ap, ap₂, subst, ◌∙◌}
use mathlib.Core.List.{List, [], ◌∷◌}
use mathlib.Core.Bool.{Bool, true, false, not, ◌||◌, ◌&&◌}
use mathlib.Core.Logic.{◌⊎◌, inl, inr}
use Prim.Native.Nat.{ℕ, zero, suc, ◌≤◌, ◌<◌}
use native.Mathlib.Decide.{ℕ_discrete}
use Rattle.scope.specs.Base.{xor}
use Rattle.scope.specs.Names.{Texts}
use Rattle.scope.specs.Types.{Ty, ty}
use Rattle.scope.specs.Nodes.{Kind}
use Rattle.scope.specs.Answers.{Success, of_bool}
use Rattle.scope.proofs.View.{VState, unknown, known, View, sel, root_of, Kid, Below, one, more, Good, occurs, occurs_st, out, self_st, self_inverse, same, meet_st, meet, unify}
use Rattle.scope.proofs.Free.{free, free_nil}
use Rattle.scope.proofs.TestLaws.{tf, any_yes, all_of, or-true}
use Rattle.scope.proofs.ViewLaws.{sel_yes, xor_self}
use Rattle.scope.proofs.Grow.{ri, Self, self, Joined, agree, selfly, joined_idx}
use Rattle.scope.proofs.Occurs.{self_kind}
use Rattle.scope.proofs.Chain.{Chain, cnil, chain_step, fuel_out, fuel_step}
use Rattle.scope.proofs.Inside.{Inside}

-- occurs says true only of what is contained, or itself
pub occurs_yes : (n : ℕ) (g : View) {C : Kind → Type 0} → Good g → Inside n C g → (f x y : ℕ) (ls : List ℕ) → g.rep y ≡ ty false y → y < n
    → Chain g y ls → free n ls ≤ f → occurs f g x y ≡ true → (y ≡ x) ⊎ Below g y x
unfolding occurs
occurs_yes n g good env zero x y ls t h c q e = absurd (fuel_out good c h q)
occurs_yes n g good env (suc f) x y ls t h c q e = go (ℕ_discrete y x) e (λ z ms tz hz cz qz ez. occurs_yes n g good env f x z ms tz hz cz qz ez)
  where
    Ih : Type 0
    Ih = (z : ℕ) (ms : List ℕ) → g.rep z ≡ ty false z → z < n → Chain g z ms → free n ms ≤ f → occurs f g x z ≡ true → (z ≡ x) ⊎ Below g z x

    T : Ty → Bool
    T u = occurs f g x (g.rep u.idx).idx

    at : (s : VState) → g.st y ≡ s → occurs_st T s ≡ true → Ih → Below g y x
    at unknown r e ih = absurd (tf (sym e))
    at (known i k) r e ih =
        let z = any_yes T k.kids e in
        let kid : Kid g y (ri g z.0) = record { inv = i; kind = k; kid = z.0; top = t; state = r; mem = z.1; to = refl } in
        elim (ih (ri g z.0) (y ∷ ls) (good.idem z.0.idx) (env.inside z.0.idx ((env.kinds y i k r).kids z.0 z.1))
        (chain_step kid c) (fuel_step good c h q) z.2)
        [ inl w ↦ subst (Below g y) w (one kid) | inr b ↦ more kid b ]

    go : (d : Dec (y ≡ x)) → sel d true (occurs_st T (g.st y)) ≡ true → Ih → (y ≡ x) ⊎ Below g y x
    go (yes w) e ih = inl w
    go (no w) e ih = inr (at (g.st y) refl e ih)

pub self_complete : (n : ℕ) (g : View) {C : Kind → Type 0} → Good g → Inside n C g → (f a : ℕ) (ls : List ℕ) → g.rep a ≡ ty false a → a < n
    → Chain g a ls → free n ls ≤ f → Self g a → self_inverse false f g a ≡ true
unfolding self_inverse
self_complete n g good env zero a ls t h c q s = absurd (fuel_out good c h q)
self_complete n g good env (suc f) a ls t h c q (self i k s d w) =
    ap (self_st false (λ u. self_inverse false f g (g.rep u.idx).idx)) s ∙ self_kind (λ u. self_inverse false f g (g.rep u.idx).idx) i k
    ∙ ap₂ ◌&&◌ d (all_of (λ u. self_inverse false f g (g.rep u.idx).idx) k.kids
    (λ x m. self_complete n g good env f (ri g x) (a ∷ ls) (good.idem x.idx) (env.inside x.idx ((env.kinds a i k s).kids x m))
    (chain_step (record { inv = i; kind = k; kid = x; top = t; state = s; mem = m; to = refl }) c) (fuel_step good c h q) (w x m)))

same_inv : (a b : Bool) → a ≡ b → not (xor a b) ≡ true
same_inv a b e = ap (λ (x : Bool). not (xor a x)) (sym e) ∙ ap not (xor_self a)

-- a joined pair answers Success, and changes nothing
pub joined_answer : (X : Texts) (n f : ℕ) (g : View) {C : Kind → Type 0} (p q : Ty) → Good g → Inside n C g → p.idx < n → Joined g p q
    → unify X n (suc f) g p q ≡ out g Success
unfolding unify meet
joined_answer X n f g p q good env hp j =
    sel_yes (ℕ_discrete (ri g p) (ri g q)) (out g (of_bool (same n g (root_of g p) (root_of g q))))
    (meet_st (unify X n f) X n g (root_of g p) (root_of g q) (g.st (ri g p)) (g.st (ri g q))) (joined_idx j)
    ∙ ap (λ (b : Bool). out g (of_bool b)) (test j)
  where
    test : Joined g p q → same n g (root_of g p) (root_of g q) ≡ true
    test (agree e) = ap (λ (b : Bool). b || self_inverse false n g (ri g p)) (same_inv (root_of g p).inv (root_of g q).inv (ap (λ (t : Ty). t.inv) e))
    test (selfly e s) = or-true (not (xor (root_of g p).inv (root_of g q).inv)) (self_inverse false n g (ri g p))
        (self_complete n g good env n (ri g p) [] (good.idem p.idx) (env.inside p.idx hp) cnil (free_nil n) s)
