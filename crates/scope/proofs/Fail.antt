-- Failure: trees that fit the view and the pair give some node without a kind a tree that is its own inverse, unless there is a Default.
-- Assumes nothing.
use mathlib.Core.Path.{◌≡◌, refl, sym, ap, ap₂, subst, ◌∙◌}
use mathlib.Core.List.{List, [], ◌∷◌, Memᴰ}
use mathlib.Core.Bool.{Bool, true, false, not, ◌||◌, ◌&&◌}
use mathlib.Core.Logic.{◌≢◌, ◌⊎◌, inl, inr}
use Prim.Native.Nat.{ℕ, zero, suc, ◌+◌, ◌≤◌, ◌<◌}
use native.Mathlib.Omega.{arith}
use native.Mathlib.Decide.{ℕ_discrete, dec_lt}
use Rattle.scope.specs.Base.{xor, all}
use Rattle.scope.specs.Names.{Texts}
use Rattle.scope.specs.Chart.{Env}
use Rattle.scope.specs.Types.{Ty, ty}
use Rattle.scope.specs.Kinds.{self_dual, DEFAULT}
use Rattle.scope.specs.Nodes.{Kind}
use Rattle.scope.specs.Answers.{Answer, Success, Failure, Indeterminate, both, of_bool}
use Rattle.scope.specs.Unify.{Plan, plan}
use Rattle.scope.specs.Trees.{TreeHead, Tree, node, Forest, fnil, fcons, tree_head, tree_dual, invert, inverts, Val, invert_if, val, vals, build}
use Rattle.scope.proofs.View.{VState, unknown, known, View, sel, root_of, Kid, Below, one, more, Good, Out, out, run}
use Rattle.scope.proofs.View.{occurs, self_st, self_inverse, same, bind, close, join, kept, meet_st, meet, unify}
use Rattle.scope.proofs.TreeLaws.{invert_dual, invert_mark, invert_if_twice, fcons_head, fcons_tail, node_kids}
use Rattle.scope.proofs.Free.{free, free_nil}
use Rattle.scope.proofs.Chain.{Chain, cnil, chain_step, fuel_out, fuel_step}
use Rattle.scope.proofs.TestLaws.{tf, all_no}
use Rattle.scope.proofs.PlanLaws.{Makeable, dual_tree, plan_equal, plan_fail}
use Rattle.scope.proofs.ViewLaws.{not_known, Fine}
use Rattle.scope.proofs.Grow.{ri, Grow, mono_idx}
use Rattle.scope.proofs.Stay.{Spec, Step}
use Rattle.scope.proofs.Occurs.{self_kind}
use Rattle.scope.proofs.Meet.{unify_spec}
use Rattle.scope.proofs.Fuel.{Chains, chain_after, plan_chains}
use Rattle.scope.proofs.Inside.{Inside, InsideStep, inside_kinds, Within, plan_within, unify_inside}
use Rattle.scope.proofs.Self.{occurs_yes}
use Rattle.scope.proofs.ViewFits.{Fits, val_root}
use Rattle.scope.proofs.Sol.{Equal, SolStep, den_known, uncross, unify_sol}

-- a kind that can be made, and is no Default
pub record Plain (e : Env) (k : Kind) : Type 0 where
  pub make : Makeable e k
  pub no_default : k.head.code ≢ DEFAULT

pub plain_makes : {e : Env} (k : Kind) → Plain e k → Makeable e k
plain_makes k p = p.make

-- a node without a kind whose tree is its own inverse
pub record Witness (e : Env) (n : ℕ) (g : View) (v : Val) : Type 0 where
  pub node : ℕ
  pub below : node < n
  pub no_kind : g.st (g.rep node).idx ≡ unknown
  pub own_inverse : invert e (v node) ≡ v node

-- sizes of trees
mutual
  size : Tree → ℕ
  size (node h m ts) = suc (sizes ts)

  sizes : Forest → ℕ
  sizes fnil = zero
  sizes (fcons t ts) = size t + sizes ts

size_at : (E : Env) (h : TreeHead) (m : Bool) (ts : Forest) → sizes (inverts E ts) ≡ sizes ts → (b : Bool) → tree_dual E h ≡ b
    → size (invert E (node h m ts)) ≡ size (node h m ts)
unfolding size
size_at E h m ts e true d = ap size (invert_dual E h m ts d) ∙ ap suc e
size_at E h m ts e false d = ap size (invert_mark E h m ts d)

mutual
  unfolding size inverts

  size_invert : (E : Env) (t : Tree) → size (invert E t) ≡ size t
  size_invert E (node h m ts) = size_at E h m ts (sizes_invert E ts) (tree_dual E h) refl

  sizes_invert : (E : Env) (ts : Forest) → sizes (inverts E ts) ≡ sizes ts
  sizes_invert E fnil = refl
  sizes_invert E (fcons t ts) = ap₂ ◌+◌ (size_invert E t) (sizes_invert E ts)

size_invert_if : (E : Env) (i : Bool) (t : Tree) → size (invert_if E i t) ≡ size t
size_invert_if E false t = refl
size_invert_if E true t = size_invert E t

size_mem : (E : Env) (v : Val) (xs : List Ty) (x : Ty) → Memᴰ x xs → size (val E v x) ≤ sizes (vals E v xs)
unfolding size
size_mem E v [] x m = elim m [ ]
size_mem E v (y ∷ ys) x (Memᴰ.head e) = omega (arith, ap (λ (t : Ty). size (val E v t)) e)
size_mem E v (y ∷ ys) x (Memᴰ.tail m) = omega (arith, size_mem E v ys x m)

size_kid : {E : Env} {v : Val} {g : View} {a x : ℕ} → Fits E v g → Kid g a x → size (v x) < size (v a)
unfolding size build
size_kid {E} {v} {g} {a} {x} f c =
    let e : v a ≡ invert_if E c.inv (build E v c.kind) = den_known E v (v a) c.state (f.state a) in
    omega (
      arith,
      ap size e,
      size_invert_if E c.inv (build E v c.kind),
      size_mem E v c.kind.kids c.kid c.mem,
      ap size (val_root f c.kid),
      size_invert_if E (root_of g c.kid).inv (v (ri g c.kid)),
      ap (λ (n : ℕ). size (v n)) c.to,
    )

size_below : {E : Env} {v : Val} {g : View} {a x : ℕ} → Fits E v g → Below g a x → size (v x) < size (v a)
size_below f (one c) = size_kid f c
size_below f (more c b) = omega (arith, size_kid f c, size_below f b)

marks : {h : TreeHead} {ts ts' : Forest} {A : Type 0} → node h true ts ≡ node h false ts' → A
marks {h} {ts} {ts'} e = let z : true ≡ false = cc in tf z

both_failure : (a b : Answer) → both a b ≡ Failure → (a ≡ Failure) ⊎ (b ≡ Failure)
both_failure Success b e = inr e
both_failure Failure b e = inl refl
both_failure Indeterminate Success e = inl e
both_failure Indeterminate Failure e = inr refl
both_failure Indeterminate Indeterminate e = inl e

module _ (E : Env) where
  vals_each : (v : Val) (xs : List Ty) (x : Ty) → Memᴰ x xs → inverts E (vals E v xs) ≡ vals E v xs → invert E (val E v x) ≡ val E v x
  unfolding inverts
  vals_each v [] x m e = elim m [ ]
  vals_each v (y ∷ ys) x (Memᴰ.head q) e = subst (λ (z : Ty). invert E (val E v z) ≡ val E v z) (sym q) (fcons_head e)
  vals_each v (y ∷ ys) x (Memᴰ.tail m) e = vals_each v ys x m (fcons_tail e)

  self_invert_if : (i : Bool) (t : Tree) → invert E (invert_if E i t) ≡ invert_if E i t → invert E t ≡ t
  self_invert_if false t e = e
  self_invert_if true t e = sym e ∙ invert_if_twice E true t

  self_kids : (v : Val) (k : Kind) → Makeable E k → invert E (build E v k) ≡ build E v k
      → (self_dual k.head ≡ true) × (inverts E (vals E v k.kids) ≡ vals E v k.kids)
  unfolding build
  self_kids v k ok e = go (tree_dual E (tree_head E.texts k.head)) refl
    where
      go : (b : Bool) → tree_dual E (tree_head E.texts k.head) ≡ b
          → (self_dual k.head ≡ true) × (inverts E (vals E v k.kids) ≡ vals E v k.kids)
      go true d = (sym (dual_tree E k ok) ∙ d, node_kids (sym (invert_dual E (tree_head E.texts k.head) false (vals E v k.kids) d) ∙ e))
      go false d = marks (sym (invert_mark E (tree_head E.texts k.head) false (vals E v k.kids) d) ∙ e)

  self_root : {v : Val} {g : View} → Fits E v g → (x : Ty) → invert E (val E v x) ≡ val E v x → invert E (v (ri g x)) ≡ v (ri g x)
  self_root {v} {g} fit x w =
      let m : val E v x ≡ invert_if E (root_of g x).inv (v (ri g x)) = val_root fit x in
      self_invert_if (root_of g x).inv (v (ri g x)) (ap (invert E) (sym m) ∙ w ∙ m)

  self_fail : (n : ℕ) (g : View) (v : Val) → Good g → Inside n (Plain E) g → Fits E v g → (f a : ℕ) (ls : List ℕ) → g.rep a ≡ ty false a
      → a < n → Chain g a ls → free n ls ≤ f
      → self_inverse false f g a ≡ false → invert E (v a) ≡ v a → Witness E n g v
  unfolding self_inverse
  self_fail n g v good env fit zero a ls t h c q e i = absurd (fuel_out good c h q)
  self_fail n g v good env fit (suc f) a ls t h c q e i = go (g.st a) refl e
      (λ z ms tz hz cz qz ez iz. self_fail n g v good env fit f z ms tz hz cz qz ez iz)
    where
      T : Ty → Bool
      T u = self_inverse false f g (g.rep u.idx).idx

      go : (s : VState) → g.st a ≡ s → self_st false T s ≡ false
          → ((z : ℕ) (ms : List ℕ) → g.rep z ≡ ty false z → z < n → Chain g z ms → free n ms ≤ f → self_inverse false f g z ≡ false
          → invert E (v z) ≡ v z → Witness E n g v) → Witness E n g v
      go unknown r e ih = record { node = a; below = h; no_kind = ap (λ (x : Ty). g.st x.idx) t ∙ r; own_inverse = i }
      go (known j k) r e ih =
          let b : v a ≡ invert_if E j (build E v k) = den_known E v (v a) r (fit.state a) in
          let sk = self_kids v k (env.kinds a j k r).made.make (self_invert_if j (build E v k) (ap (invert E) (sym b) ∙ i ∙ b)) in
          let z = all_no T k.kids (ap (λ (x : Bool). x && all T k.kids) (sym sk.0) ∙ sym (self_kind T j k) ∙ e) in
          let kid : Kid g a (ri g z.0) = record { inv = j; kind = k; kid = z.0; top = t; state = r; mem = z.1; to = refl } in
          ih (ri g z.0) (a ∷ ls) (good.idem z.0.idx) (env.inside z.0.idx ((env.kinds a j k r).kids z.0 z.1)) (chain_step kid c)
          (fuel_step good c h q) z.2
          (self_root fit z.0 (vals_each v k.kids z.0 z.1 sk.1))

  witness_back : {X : Texts} {n : ℕ} {g h : View} {v : Val} → Good g → Grow X g h → Witness E n h v → Witness E n g v
  witness_back {X} {n} {g} {h} {v} good w x = record {
    node = x.node;
    below = x.below;
    no_kind = go (g.st (g.rep x.node).idx) refl;
    own_inverse = x.own_inverse;
  }
    where
      go : (s : VState) → g.st (g.rep x.node).idx ≡ s → g.st (g.rep x.node).idx ≡ unknown
      go unknown e = e
      go (known i k) e =
          let c = w.knows (g.rep x.node).idx i k (good.idem x.node) e in
          absurd (not_known (sym x.no_kind ∙ ap h.st (mono_idx w x.node) ∙ c.state))

  abbrev pub FailStep : ℕ → ℕ → (View → Ty → Ty → Out) → Type 0
  FailStep n f u = (g : View) (p q : Ty) (ls : List ℕ) → Good g → Inside n (Plain E) g → p.idx < n → q.idx < n → Chain g (ri g p) ls → free n ls ≤ f
      → (v : Val) → Fits E v g → val E v p ≡ val E v q → (u g p q).answer ≡ Failure → Witness E n g v

  module _ (n f : ℕ) (u : View → Ty → Ty → Out) (sp : Step E u) (sl : SolStep E u) (en : InsideStep n (Plain E) u) (ih : FailStep n f u)
      (v : Val) where
    run_fail : (g : View) (r : Answer) (ps : List (Ty × Ty)) (ls : List ℕ) → Good g → Inside n (Plain E) g → Within n ps → Chains g ls ps
        → free n ls ≤ f → Fits E v g → Equal E v ps
        → (run u g r ps).answer ≡ Failure → (r ≡ Failure) ⊎ Witness E n g v
    unfolding run
    run_fail g r [] ls good env i c q fit e x = inl x
    run_fail g r (p ∷ ps) ls good env i c q fit e x =
        go (run_fail (u g p.0 p.1).view (both r (u g p.0 p.1).answer) ps ls s.grow.good
        (en g p.0 p.1 good env i₀.0 i₀.1) (λ y m. i y (Memᴰ.tail m))
        (λ y m. chain_after s y.0 c₀ (c y (Memᴰ.tail m))) q ((sl g p.0 p.1 good (inside_kinds plain_makes env)).fwd v fit e₀)
        (λ y m. e y (Memᴰ.tail m)) x)
      where
        here : Memᴰ p (p ∷ ps)
        here = Memᴰ.head refl

        s : Spec E.texts g p.0 p.1 (u g p.0 p.1)
        s = sp g p.0 p.1 good (inside_kinds plain_makes env)

        i₀ : (p.0.idx < n) × (p.1.idx < n)
        i₀ = i p here

        c₀ : Chain g (ri g p.0) ls
        c₀ = c p here

        e₀ : val E v p.0 ≡ val E v p.1
        e₀ = e p here

        at : (r ≡ Failure) ⊎ ((u g p.0 p.1).answer ≡ Failure) → (r ≡ Failure) ⊎ Witness E n g v
        at (inl y) = inl y
        at (inr y) = inr (ih g p.0 p.1 ls good env i₀.0 i₀.1 c₀ q v fit e₀ y)

        go : (both r (u g p.0 p.1).answer ≡ Failure) ⊎ Witness E n (u g p.0 p.1).view v → (r ≡ Failure) ⊎ Witness E n g v
        go (inl y) = at (both_failure r (u g p.0 p.1).answer y)
        go (inr y) = inr (witness_back good s.grow y)

    module _ (g : View) (a b : Ty) (ls : List ℕ) (good : Good g) (env : Inside n (Plain E) g) (ha : a.idx < n) (hb : b.idx < n)
        (atop : g.rep a.idx ≡ ty false a.idx) (btop : g.rep b.idx ≡ ty false b.idx) (ch : Chain g a.idx ls)
        (fu : free n ls ≤ suc f) (fit : Fits E v g) (eq : val E v a ≡ val E v b) where
      same_fail : a.idx ≡ b.idx → of_bool (same n g a b) ≡ Failure → Witness E n g v
      same_fail e = go a.inv b.inv (self_inverse false n g a.idx) refl refl refl
        where
          wit : self_inverse false n g a.idx ≡ false → invert E (v a.idx) ≡ v a.idx → Witness E n g v
          wit s i = self_fail n g v good env fit n a.idx [] atop ha cnil (free_nil n) s i

          go : (x y z : Bool) → a.inv ≡ x → b.inv ≡ y → self_inverse false n g a.idx ≡ z → of_bool (not (xor x y) || z) ≡ Failure → Witness E n g v
          go true true z p q r w = let o : ◌≡◌ {A = ℕ} 0 1 = cc in absurd (omega arith)
          go false false z p q r w = let o : ◌≡◌ {A = ℕ} 0 1 = cc in absurd (omega arith)
          go true false true p q r w = let o : ◌≡◌ {A = ℕ} 0 1 = cc in absurd (omega arith)
          go false true true p q r w = let o : ◌≡◌ {A = ℕ} 0 1 = cc in absurd (omega arith)
          go true false false p q r w = wit r (ap (λ (c : Bool). invert_if E c (v a.idx)) (sym p) ∙ eq
              ∙ ap (λ (c : Bool). invert_if E c (v b.idx)) q ∙ ap v (sym e))
          go false true false p q r w = wit r (sym (ap (λ (c : Bool). invert_if E c (v a.idx)) (sym p) ∙ eq
              ∙ ap (λ (c : Bool). invert_if E c (v b.idx)) q ∙ ap (λ (m : ℕ). invert E (v m)) (sym e)))

      same_size : size (v a.idx) ≡ size (v b.idx)
      same_size = sym (size_invert_if E a.inv (v a.idx)) ∙ ap size eq ∙ size_invert_if E b.inv (v b.idx)

      bind_fail : a.idx ≢ b.idx → (o : Bool) → (occurs n g a.idx b.idx || occurs n g b.idx a.idx) ≡ o
          → (bind n g a b o).answer ≡ Failure → ⊥
      bind_fail ne true e x = go (occurs n g a.idx b.idx) (occurs n g b.idx a.idx) refl refl e
        where
          go : (y z : Bool) → occurs n g a.idx b.idx ≡ y → occurs n g b.idx a.idx ≡ z → (y || z) ≡ true → ⊥
          go true z p q w = elim (occurs_yes n g good env n a.idx b.idx [] btop hb cnil (free_nil n) p) [
            | inl r ↦ ne (sym r)
            | inr c ↦ omega (arith, size_below fit c, same_size)
          ]
          go false true p q w = elim (occurs_yes n g good env n b.idx a.idx [] atop ha cnil (free_nil n) q) [
            | inl r ↦ ne r
            | inr c ↦ omega (arith, size_below fit c, same_size)
          ]
          go false false p q w = tf (sym w)
      bind_fail ne false e x = go (dec_lt (g.sz b.idx) (g.sz a.idx)) x
        where
          go : (d : Dec (g.sz b.idx < g.sz a.idx))
              → (sel d (out (join g a b (kept g a a b)) Success) (out (join g b a (kept g b a b)) Success)).answer ≡ Failure → ⊥
          go (yes d) x = let z : ◌≡◌ {A = ℕ} 0 1 = cc in omega arith
          go (no d) x = let z : ◌≡◌ {A = ℕ} 0 1 = cc in omega arith

      close_fail : (h : View) (r : Answer) → (close h a b r).answer ≡ Failure → r ≡ Failure
      close_fail h Failure x = refl
      close_fail h Indeterminate x = x
      close_fail h Success x = go (dec_lt (h.sz b.idx) (h.sz a.idx)) x
        where
          go : (d : Dec (h.sz b.idx < h.sz a.idx))
              → (sel d (out (join h a b (h.st a.idx)) Success) (out (join h b a (h.st b.idx)) Success)).answer ≡ Failure → Success ≡ Failure
          go (yes d) x = x
          go (no d) x = x

      meet_fail_st : a.idx ≢ b.idx → (sa sb : VState) → g.st a.idx ≡ sa → g.st b.idx ≡ sb
          → (meet_st u E.texts n g a b sa sb).answer ≡ Failure → Witness E n g v
      meet_fail_st ne unknown sb p q x = absurd (bind_fail ne (occurs n g a.idx b.idx || occurs n g b.idx a.idx) refl x)
      meet_fail_st ne (known i k) unknown p q x = absurd (bind_fail ne (occurs n g a.idx b.idx || occurs n g b.idx a.idx) refl x)
      meet_fail_st ne (known i k) (known j m) p q x =
          let c : Bool = xor (xor i a.inv) (xor j b.inv) in
          let l : Plan = plan E.texts k m c in
          let o : Out = run u g l.base l.pairs in
          let fk : Fine n (Plain E) k = env.kinds a.idx i k p in
          let fm : Fine n (Plain E) m = env.kinds b.idx j m q in
          let tr : build E v k ≡ invert_if E c (build E v m) =
          uncross E a.inv i b.inv j (v a.idx) (v b.idx) (build E v k) (build E v m)
          (den_known E v (v a.idx) p (fit.state a.idx)) (den_known E v (v b.idx) q (fit.state b.idx)) eq in
          elim (run_fail g l.base l.pairs (a.idx ∷ ls) good env (plan_within E.texts c fk fm)
          (plan_chains E.texts g a.idx ls atop ch i k m c p) (fuel_step good ch ha fu) fit
          (λ y w. plan_equal E v k m c fk.made.make fm.made.make tr y w) (close_fail o.view o.answer x))
          [ inl w ↦ absurd (plan_fail E v k m c fk.made.make fm.made.make fk.made.no_default w tr) | inr w ↦ w ]

      meet_fail : (meet u E.texts n g a b).answer ≡ Failure → Witness E n g v
      unfolding meet
      meet_fail = go (ℕ_discrete a.idx b.idx)
        where
          go : (d : Dec (a.idx ≡ b.idx)) → (sel d (out g (of_bool (same n g a b)))
              (meet_st u E.texts n g a b (g.st a.idx) (g.st b.idx))).answer ≡ Failure → Witness E n g v
          go (yes e) x = same_fail e x
          go (no e) x = meet_fail_st e (g.st a.idx) (g.st b.idx) refl refl x

  pub unify_fail : (n f : ℕ) → FailStep n f (unify E.texts n f)
  unfolding unify
  unify_fail n zero g p q ls good env hp hq c fu v fit eq x = absurd (fuel_out good c (env.inside p.idx hp) fu)
  unify_fail n (suc f) g p q ls good env hp hq c fu v fit eq x =
      meet_fail n f (unify E.texts n f) (unify_spec E n f) (unify_sol E n f) (unify_inside E n (Plain E) plain_makes f)
      (λ g p q ls good env hp hq c fu v fit eq x. unify_fail n f g p q ls good env hp hq c fu v fit eq x) v
      g (root_of g p) (root_of g q) ls good env (env.inside p.idx hp) (env.inside q.idx hq) (good.idem p.idx)
      (good.idem q.idx) c fu fit (sym (val_root fit p) ∙ eq ∙ val_root fit q) x

  -- Failure, started with the number of nodes: every solution gives a node that had no kind a tree that is its own inverse
  pub failure_means : (n : ℕ) (g : View) (p q : Ty) → Good g → Inside n (Plain E) g → p.idx < n → q.idx < n
      → (unify E.texts n n g p q).answer ≡ Failure → (v : Val) → Fits E v g → val E v p ≡ val E v q → Witness E n g v
  failure_means n g p q good env hp hq x v fit eq = unify_fail n n g p q [] good env hp hq cnil (free_nil n) v fit eq x
