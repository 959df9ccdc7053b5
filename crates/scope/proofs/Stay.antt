-- What a unify does to a view, as a record, and the same for a run of pairs: kinds stay and none is new, whatever contains the two types stays,
-- and after Success the two are joined. Assumes nothing.
use mathlib.Core.Path.{◌≡◌, refl, sym, subst, ◌∙◌}
use mathlib.Core.List.{List, [], ◌∷◌, Memᴰ}
use mathlib.Core.Bool.{Bool}
use mathlib.Core.Logic.{◌⊎◌, inl, inr}
use Prim.Native.Nat.{ℕ}
use native.Mathlib.Omega.{arith}
use Rattle.scope.specs.Names.{Texts}
use Rattle.scope.specs.Chart.{Env}
use Rattle.scope.specs.Types.{Ty}
use Rattle.scope.specs.Nodes.{Kind}
use Rattle.scope.specs.Answers.{Answer, Success, Failure, Indeterminate, both}
use Rattle.scope.proofs.Laws.{both_success}
use Rattle.scope.proofs.View.{known, View, Below, Good, Out, out, run}
use Rattle.scope.proofs.PlanLaws.{Makeable}
use Rattle.scope.proofs.ViewLaws.{idx_eq, Kinds}
use Rattle.scope.proofs.Grow.{ri, Grow, grow_refl, grow_trans, mono_idx, Joined, joined_grow, below_grow, below_top}

-- every kind known in h was known in g
pub record NoNew (g h : View) : Type 0 where
  pub was : (a : ℕ) (i : Bool) (k : Kind) → h.st a ≡ known i k → (b : ℕ) × (j : Bool) × (g.st b ≡ known j k)

pub no_new_refl : {g : View} → NoNew g g
no_new_refl = record { was = λ a i k e. (a, i, e) }

pub no_new_trans : {g h m : View} → NoNew g h → NoNew h m → NoNew g m
no_new_trans p q = record { was = λ a i k e. let z = q.was a i k e in p.was z.0 z.1 k z.2 }

pub kinds_after : {P : Kind → Type 0} {g h : View} → Kinds P g → NoNew g h → Kinds P h
kinds_after p q a i k e = let z = q.was a i k e in p z.0 z.1 k z.2

-- each pair of a list
abbrev pub AllPairs : (Ty × Ty → Type 0) → List (Ty × Ty) → Type 0
AllPairs P ps = (p : Ty × Ty) → Memᴰ p ps → P p

pub pairs_nil : (P : Ty × Ty → Type 0) → AllPairs P []
pairs_nil P p m = elim m [ ]

pub pairs_cons : (P : Ty × Ty → Type 0) {p : Ty × Ty} {ps : List (Ty × Ty)} → P p → AllPairs P ps → AllPairs P (p ∷ ps)
pairs_cons P h t q (Memᴰ.head e) = subst P (sym e) h
pairs_cons P h t q (Memᴰ.tail m) = t q m

-- a's root and state are as they were
pub record Stays (g h : View) (a : ℕ) : Type 0 where
  pub rep : h.rep a ≡ g.rep a
  pub st : h.st a ≡ g.st a

pub stays_trans : {g h m : View} {a : ℕ} → Stays g h a → Stays h m a → Stays g m a
stays_trans s t = record { rep = t.rep ∙ s.rep; st = t.st ∙ s.st }

-- a contains one of the two
abbrev pub Above : View → ℕ → Ty × Ty → Type 0
Above g a p = Below g a (ri g p.0) ⊎ Below g a (ri g p.1)

pub record Spec (X : Texts) (g : View) (p q : Ty) (o : Out) : Type 0 where
  pub grow : Grow X g o.view
  pub no_new : NoNew g o.view
  pub stays : (a : ℕ) → Above g a (p, q) → Stays g o.view a
  pub joined : o.answer ≡ Success → Joined o.view p q

-- nothing changed
pub spec_same : {X : Texts} {g : View} {p q : Ty} (r : Answer) → Good g → (r ≡ Success → Joined g p q) → Spec X g p q (out g r)
spec_same r good j = record { grow = grow_refl good; no_new = no_new_refl; stays = λ a b. record { rep = refl; st = refl }; joined = j }

-- each pair is joined
abbrev pub Tied : View → List (Ty × Ty) → Type 0
Tied g = AllPairs (λ p. Joined g p.0 p.1)

pub record RunSpec (X : Texts) (g : View) (r : Answer) (ps : List (Ty × Ty)) (o : Out) : Type 0 where
  pub grow : Grow X g o.view
  pub no_new : NoNew g o.view
  pub stays : (a : ℕ) → AllPairs (Above g a) ps → Stays g o.view a
  pub joined : o.answer ≡ Success → (r ≡ Success) × Tied o.view ps

pub not_success : Failure ≡ Success → ⊥
not_success e = let z : ◌≡◌ {A = ℕ} 0 1 = cc in omega arith

pub unsure_success : Indeterminate ≡ Success → ⊥
unsure_success e = let z : ◌≡◌ {A = ℕ} 0 1 = cc in omega arith

-- what lies below a still does, where a itself stays
pub below_stays : {X : Texts} {g h : View} {a : ℕ} (t : Ty) → Grow X g h → Stays g h a → Below g a (ri g t) → Below h a (ri h t)
below_stays {X} {g} {h} {a} t w s b =
    rw (mono_idx w t.idx) (subst (λ (x : ℕ). Below h x (h.rep (ri g t)).idx) (idx_eq (s.rep ∙ below_top b)) (below_grow w b))

pub above_stays : {X : Texts} {g h : View} {a : ℕ} (p : Ty × Ty) → Grow X g h → Stays g h a → Above g a p → Above h a p
above_stays p w s (inl b) = inl (below_stays p.0 w s b)
above_stays p w s (inr b) = inr (below_stays p.1 w s b)

abbrev pub Step : Env → (View → Ty → Ty → Out) → Type 0
Step e u = (g : View) (p q : Ty) → Good g → Kinds (Makeable e) g → Spec e.texts g p q (u g p q)

pub run_spec : (e : Env) (u : View → Ty → Ty → Out) → Step e u → (g : View) (r : Answer) (ps : List (Ty × Ty)) → Good g → Kinds (Makeable e) g
    → RunSpec e.texts g r ps (run u g r ps)
unfolding run
run_spec e u ih g r [] good kinds = record {
  grow = grow_refl good;
  no_new = no_new_refl;
  stays = λ a o. record { rep = refl; st = refl };
  joined = λ q. (q, pairs_nil (λ p. Joined g p.0 p.1));
}
run_spec e u ih g r (p ∷ ps) good kinds =
    let s = ih g p.0 p.1 good kinds in
    go s (run_spec e u ih (u g p.0 p.1).view (both r (u g p.0 p.1).answer) ps s.grow.good (kinds_after kinds s.no_new))
  where
    h : View
    h = (u g p.0 p.1).view

    o : Out
    o = run u h (both r (u g p.0 p.1).answer) ps

    go : Spec e.texts g p.0 p.1 (u g p.0 p.1) → RunSpec e.texts h (both r (u g p.0 p.1).answer) ps o
        → RunSpec e.texts g r (p ∷ ps) o
    go s t = record {
      grow = grow_trans s.grow.good s.grow t.grow;
      no_new = no_new_trans s.no_new t.no_new;
      stays = stays';
      joined = joined';
    }
      where
        stays' : (a : ℕ) → AllPairs (Above g a) (p ∷ ps) → Stays g o.view a
        stays' a b =
            let s₁ = s.stays a (b p (Memᴰ.head refl)) in
            stays_trans s₁ (t.stays a (λ q m. above_stays q s.grow s₁ (b q (Memᴰ.tail m))))

        joined' : o.answer ≡ Success → (r ≡ Success) × Tied o.view (p ∷ ps)
        joined' q =
            let j = t.joined q in
            let b = both_success r (u g p.0 p.1).answer j.0 in
            (b.0, pairs_cons (λ z. Joined o.view z.0 z.1) (joined_grow s.grow.good t.grow (s.joined b.1)) j.1)
