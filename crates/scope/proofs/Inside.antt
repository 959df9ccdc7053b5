-- The nodes in use stay below n, and whatever holds of every known kind goes on holding. Assumes nothing.
use mathlib.Core.Path.{◌≡◌, refl}
use mathlib.Core.List.Memᴰ
use mathlib.Core.List.{List, [], ◌∷◌}
use mathlib.Core.Bool.{Bool, true, false, ◌||◌}
use mathlib.Core.Logic.{◌≢◌, ◌⊎◌, inl, inr}
use Prim.Native.Nat.{ℕ, zero, suc, ◌<◌}
use native.Mathlib.Decide.{ℕ_discrete, dec_lt}
use Rattle.scope.specs.Base.{xor}
use Rattle.scope.specs.Names.{Texts}
use Rattle.scope.specs.Chart.{Env}
use Rattle.scope.specs.Types.{Ty}
use Rattle.scope.specs.Nodes.{Kind}
use Rattle.scope.specs.Answers.{Answer, Success, Failure, Indeterminate, both, of_bool}
use Rattle.scope.specs.Unify.{Plan, plan}
use Rattle.scope.proofs.View.{VState, unknown, known, View, sel, root_of, Good, Out, out, run, occurs, same, bind, close, join, kept, meet_st, meet, unify}
use Rattle.scope.proofs.PlanLaws.{Makeable, plan_left, plan_right}
use Rattle.scope.proofs.ViewLaws.{same?, rep_hit, rep_miss, Kinds, Fine}
use Rattle.scope.proofs.Stay.{NoNew, kinds_after, AllPairs, Step}
use Rattle.scope.proofs.Meet.{unify_spec}

-- roots of nodes below n are below n
abbrev pub Bounded : ℕ → View → Type 0
Bounded n g = (x : ℕ) → x < n → (g.rep x).idx < n

pub record Inside (n : ℕ) (C : Kind → Type 0) (g : View) : Type 0 where
  pub inside : Bounded n g
  pub kinds : Kinds (Fine n C) g

-- where C says that a kind can be made
abbrev pub Makes : Env → (Kind → Type 0) → Type 0
Makes e C = (k : Kind) → C k → Makeable e k

pub inside_kinds : {e : Env} {n : ℕ} {C : Kind → Type 0} {g : View} → Makes e C → Inside n C g → Kinds (Makeable e) g
inside_kinds mk s a i k q = mk k (s.kinds a i k q).made

pub inside_after : {n : ℕ} {C : Kind → Type 0} {g h : View} → Inside n C g → NoNew g h → Bounded n h → Inside n C h
inside_after s w b = record { inside = b; kinds = kinds_after s.kinds w }

-- pairs of nodes below n
abbrev pub Within : ℕ → List (Ty × Ty) → Type 0
Within n = AllPairs (λ p. (p.0.idx < n) × (p.1.idx < n))

pub plan_within : (X : Texts) {n : ℕ} {C : Kind → Type 0} {k m : Kind} (c : Bool) → Fine n C k → Fine n C m → Within n (plan X k m c).pairs
plan_within X {n} {C} {k} {m} c a b p w =
    let y = plan_right X k m c p w in
    (a.kids p.0 (plan_left X k m c p w), rw y.2 (b.kids y.0 y.1))

join_bounded : (n : ℕ) (g : View) (w l : Ty) (k : VState) → w.idx < n → Bounded n g → Bounded n (join g w l k)
join_bounded n g w l k hw b x h = go (same? (g.rep x).idx l.idx)
  where
    go : ((g.rep x).idx ≡ l.idx) ⊎ ((g.rep x).idx ≢ l.idx) → ((join g w l k).rep x).idx < n
    go (inl e) = rw (rep_hit g w.idx l.idx (xor l.inv w.inv) k x e) hw
    go (inr e) = rw (rep_miss g w.idx l.idx (xor l.inv w.inv) k x e) (b x h)

module _ (n : ℕ) (g : View) (a b : Ty) (ha : a.idx < n) (hb : b.idx < n) (bd : Bounded n g) where
  -- either root may stay
  stay_bounded : {A : Type 0} (d : Dec A) (s t : VState) → Bounded n (sel d (out (join g a b s) Success) (out (join g b a t) Success)).view
  stay_bounded (yes d) s t = join_bounded n g a b s ha bd
  stay_bounded (no d) s t = join_bounded n g b a t hb bd

  bind_bounded : (f : ℕ) (o : Bool) → Bounded n (bind f g a b o).view
  bind_bounded f true = bd
  bind_bounded f false = stay_bounded (dec_lt (g.sz b.idx) (g.sz a.idx)) (kept g a a b) (kept g b a b)

  close_bounded : (r : Answer) → Bounded n (close g a b r).view
  close_bounded Failure = bd
  close_bounded Indeterminate = bd
  close_bounded Success = stay_bounded (dec_lt (g.sz b.idx) (g.sz a.idx)) (g.st a.idx) (g.st b.idx)

abbrev pub InsideStep : ℕ → (Kind → Type 0) → (View → Ty → Ty → Out) → Type 0
InsideStep n C u = (g : View) (p q : Ty) → Good g → Inside n C g → p.idx < n → q.idx < n → Inside n C (u g p q).view

module _ (e : Env) (n : ℕ) (C : Kind → Type 0) (mk : Makes e C) (u : View → Ty → Ty → Out) (sp : Step e u) (ih : InsideStep n C u) where
  pub run_inside : (g : View) (r : Answer) (ps : List (Ty × Ty)) → Good g → Inside n C g → Within n ps → Inside n C (run u g r ps).view
  unfolding run
  run_inside g r [] good s w = s
  run_inside g r (p ∷ ps) good s w =
      let h = w p (Memᴰ.head refl) in
      run_inside (u g p.0 p.1).view (both r (u g p.0 p.1).answer) ps (sp g p.0 p.1 good (inside_kinds mk s)).grow.good
      (ih g p.0 p.1 good s h.0 h.1) (λ q m. w q (Memᴰ.tail m))

  meet_bounded : (f : ℕ) (g : View) (a b : Ty) → Good g → Inside n C g → a.idx < n → b.idx < n → Bounded n (meet u e.texts f g a b).view
  unfolding meet
  meet_bounded f g a b good s ha hb = go (ℕ_discrete a.idx b.idx)
    where
      at : (sa sb : VState) → g.st a.idx ≡ sa → g.st b.idx ≡ sb → Bounded n (meet_st u e.texts f g a b sa sb).view
      at unknown sb p q = bind_bounded n g a b ha hb s.inside f (occurs f g a.idx b.idx || occurs f g b.idx a.idx)
      at (known i k) unknown p q = bind_bounded n g a b ha hb s.inside f (occurs f g a.idx b.idx || occurs f g b.idx a.idx)
      at (known i k) (known j m) p q =
          let c : Bool = xor (xor i a.inv) (xor j b.inv) in
          let l : Plan = plan e.texts k m c in
          let o : Out = run u g l.base l.pairs in
          let t : Inside n C o.view = run_inside g l.base l.pairs good s
          (plan_within e.texts c (s.kinds a.idx i k p) (s.kinds b.idx j m q)) in
          close_bounded n o.view a b ha hb t.inside o.answer

      go : (d : Dec (a.idx ≡ b.idx)) → Bounded n
          (sel d (out g (of_bool (same f g a b))) (meet_st u e.texts f g a b (g.st a.idx) (g.st b.idx))).view
      go (yes q) = s.inside
      go (no q) = at (g.st a.idx) (g.st b.idx) refl refl

unify_bounded : (e : Env) (n : ℕ) (C : Kind → Type 0) → Makes e C → (f : ℕ) (g : View) (p q : Ty) → Good g → Inside n C g → p.idx < n → q.idx < n
    → Bounded n (unify e.texts n f g p q).view
unfolding unify
unify_bounded e n C mk zero g p q good s hp hq = s.inside
unify_bounded e n C mk (suc f) g p q good s hp hq =
    meet_bounded e n C mk (unify e.texts n f) (unify_spec e n f)
    (λ g p q good s hp hq. inside_after s (unify_spec e n f g p q good (inside_kinds mk s)).no_new (unify_bounded e n C mk f g p q good s hp hq))
    n g (root_of g p) (root_of g q) good s (s.inside p.idx hp) (s.inside q.idx hq)

pub unify_inside : (e : Env) (n : ℕ) (C : Kind → Type 0) → Makes e C → (f : ℕ) → InsideStep n C (unify e.texts n f)
unify_inside e n C mk f g p q good s hp hq =
    inside_after s (unify_spec e n f g p q good (inside_kinds mk s)).no_new (unify_bounded e n C mk f g p q good s hp hq)
