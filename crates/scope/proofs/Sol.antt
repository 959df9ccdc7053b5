-- Solutions: which trees fit a view after a unify. Assumes nothing.
use mathlib.Core.Path.{◌≡◌, refl, sym, ap, ap₂, subst, ◌∙◌}
use mathlib.Core.List.Memᴰ
use mathlib.Core.List.{List, [], ◌∷◌}
use mathlib.Core.Bool.{Bool, true, false, not, ◌||◌}
use mathlib.Core.Logic.{◌≢◌, ◌⊎◌, inl, inr, ◌↔◌}
use Prim.Native.Nat.{ℕ, zero, suc, ◌<◌}
use native.Mathlib.Omega.{arith}
use native.Mathlib.Decide.{ℕ_discrete, dec_lt}
use lib.Dec.{eqb}
use lib.ListN.{length}
use Rattle.scope.specs.Base.{xor}
use Rattle.scope.specs.Chart.{Env}
use Rattle.scope.specs.Types.{Ty, ty, flip}
use Rattle.scope.specs.Kinds.{Head, self_dual, DEFAULT}
use Rattle.scope.specs.Nodes.{Kind}
use Rattle.scope.specs.Answers.{Answer, Success, Failure, Indeterminate, both, of_bool}
use Rattle.scope.specs.Unify.{Plan, plan, zipped, crosses}
use Rattle.scope.specs.Trees.{TreeHead, Tree, node, Forest, fcons, tree_head, inverts, Val, invert_if, val, vals, build}
use Rattle.scope.proofs.View.{VState, unknown, known, View, sel, root_of, Good, Out, out, run, occurs, same, bind, close, join, kept, turn, or_st, meet_st, meet, unify}
use Rattle.scope.proofs.TreeLaws.{invert_dual, invert_if_twice, invert_if_xor, inverts_if, inverts_if_cons}
use Rattle.scope.proofs.PlanLaws.{Makeable, dual_tree, plan_success, plan_equal}
use Rattle.scope.proofs.ViewLaws.{idx_eq, same?, not_known, rep_hit, rep_miss, st_w, st_l, st_other, xor_twice, xor_comm, Kinds}
use Rattle.scope.proofs.Grow.{joined_grow}
use Rattle.scope.proofs.Stay.{kinds_after, AllPairs, Stays, Spec, RunSpec, Step, run_spec}
use Rattle.scope.proofs.TestLaws.{and_left}
use Rattle.scope.proofs.Meet.{unify_spec, PlanSpec, plan_spec, Mergeable, deep_ok, a_stays, b_stays, join_spec}
use Rattle.scope.proofs.ViewFits.{Den, Fits, val_root, joined_val}

turn_twice : (i : Bool) (s : VState) → turn i (turn i s) ≡ s
turn_twice i unknown = refl
turn_twice i (known j k) = ap (λ (b : Bool). known b k) (xor_twice i j)

turn_un : (i : Bool) (s : VState) → s ≡ unknown → turn i s ≡ unknown
turn_un i s e = ap (turn i) e

crosses_dual : (h : Head) → crosses h ≡ true → self_dual h ≡ true
unfolding crosses
crosses_dual h e = and_left (self_dual h) (not (eqb h.code DEFAULT)) e

module _ (E : Env) where
  -- states and trees
  den_turn : (v : Val) (i : Bool) (s : VState) (t : Tree) → Den E v s t → Den E v (turn i s) (invert_if E i t)
  den_turn v i unknown t d = tt
  den_turn v i (known j k) t d = ap (invert_if E i) d ∙ sym (invert_if_xor E i j (build E v k))

  den_back : (v : Val) (i : Bool) (s : VState) (t : Tree) → Den E v (turn i s) (invert_if E i t) → Den E v s t
  den_back v i s t d = subst (λ (x : VState). Den E v x t) (turn_twice i s)
      (subst (Den E v (turn i (turn i s))) (invert_if_twice E i t) (den_turn v i (turn i s) (invert_if E i t) d))

  den_or : (v : Val) (a b : VState) (t : Tree) → Den E v a t → Den E v b t → Den E v (or_st a b) t
  den_or v unknown b t x y = y
  den_or v (known i k) b t x y = x

  den_un : (v : Val) (s : VState) (t : Tree) → s ≡ unknown → Den E v s t
  den_un v s t e = subst (λ (x : VState). Den E v x t) (sym e) tt

  den_split : (v : Val) (a b : VState) (t : Tree) → (a ≡ unknown) ⊎ (b ≡ unknown) → Den E v (or_st a b) t → Den E v a t × Den E v b t
  den_split v unknown b t u d = (tt, d)
  den_split v (known i k) b t (inl u) d = absurd (not_known (sym u))
  den_split v (known i k) b t (inr u) d = (d, den_un v b t u)

  -- trees that fit afterwards fitted before; those that fitted and give p and q one tree still fit
  pub record Sol (g : View) (p q : Ty) (o : Out) : Type 0 where
    pub back : (v : Val) → Fits E v o.view → Fits E v g
    pub fwd : (v : Val) → Fits E v g → val E v p ≡ val E v q → Fits E v o.view

  sol_sym : {g : View} {p q : Ty} {o : Out} → Sol g p q o → Sol g q p o
  sol_sym s = record { back = s.back; fwd = λ v f e. s.fwd v f (sym e) }

  -- joining two roots
  module _ (g : View) (w l : Ty) (k : VState) (ltop : g.rep l.idx ≡ ty false l.idx) (apart : w.idx ≢ l.idx) where
    tree_of : (v : Val) → v l.idx ≡ invert_if E (xor l.inv w.inv) (v w.idx) → (n : ℕ) → val E v ((join g w l k).rep n) ≡ val E v (g.rep n)
    tree_of v e n = go (same? (g.rep n).idx l.idx)
      where
        go : ((g.rep n).idx ≡ l.idx) ⊎ ((g.rep n).idx ≢ l.idx) → val E v ((join g w l k).rep n) ≡ val E v (g.rep n)
        go (inl q) = ap (val E v) (rep_hit g w.idx l.idx (xor l.inv w.inv) k n q)
            ∙ invert_if_xor E (g.rep n).inv (xor l.inv w.inv) (v w.idx)
            ∙ ap (invert_if E (g.rep n).inv) (sym e ∙ ap v (sym q))
        go (inr q) = ap (val E v) (rep_miss g w.idx l.idx (xor l.inv w.inv) k n q)

    -- what the link says of l's tree
    l_tree : (v : Val) → Fits E v (join g w l k) → v l.idx ≡ invert_if E (xor l.inv w.inv) (v w.idx)
    l_tree v f = f.tree l.idx ∙ ap (val E v) (rep_hit g w.idx l.idx (xor l.inv w.inv) k l.idx (idx_eq ltop)
        ∙ ap (λ (t : Ty). ty (xor t.inv (xor l.inv w.inv)) w.idx) ltop)

    -- the two types have one tree
    join_equal : (v : Val) → Fits E v (join g w l k) → val E v w ≡ val E v l
    join_equal v f = ap (λ (b : Bool). invert_if E b (v w.idx)) (sym (xor_twice l.inv w.inv))
        ∙ invert_if_xor E l.inv (xor l.inv w.inv) (v w.idx) ∙ ap (invert_if E l.inv) (sym (l_tree v f))

    join_sol : ((v : Val) → Fits E v (join g w l k) → Den E v (g.st w.idx) (v w.idx) × Den E v (g.st l.idx) (v l.idx))
        → ((v : Val) → Fits E v g → val E v w ≡ val E v l → Den E v k (v w.idx)) → Sol g w l (out (join g w l k) Success)
    join_sol bk fw = record { back = back; fwd = fwd }
      where
        back : (v : Val) → Fits E v (join g w l k) → Fits E v g
        back v f = record { tree = λ n. f.tree n ∙ tree_of v (l_tree v f) n; state = λ n. state n (same? n w.idx) (same? n l.idx) }
          where
            state : (n : ℕ) → (n ≡ w.idx) ⊎ (n ≢ w.idx) → (n ≡ l.idx) ⊎ (n ≢ l.idx) → Den E v (g.st n) (v n)
            state n (inl e) d = subst (λ (x : ℕ). Den E v (g.st x) (v x)) (sym e) (bk v f).0
            state n (inr e) (inl q) = subst (λ (x : ℕ). Den E v (g.st x) (v x)) (sym q) (bk v f).1
            state n (inr e) (inr q) = subst (λ (x : VState). Den E v x (v n)) (st_other g w.idx l.idx (xor l.inv w.inv) k n e q)
                (f.state n)

        fwd : (v : Val) → Fits E v g → val E v w ≡ val E v l → Fits E v (join g w l k)
        fwd v f e = record { tree = λ n. f.tree n ∙ sym (tree_of v lt n); state = λ n. state n (same? n w.idx) (same? n l.idx) }
          where
            lt : v l.idx ≡ invert_if E (xor l.inv w.inv) (v w.idx)
            lt = sym (invert_if_twice E l.inv (v l.idx)) ∙ ap (invert_if E l.inv) (sym e) ∙ sym (invert_if_xor E l.inv w.inv (v w.idx))

            state : (n : ℕ) → (n ≡ w.idx) ⊎ (n ≢ w.idx) → (n ≡ l.idx) ⊎ (n ≢ l.idx) → Den E v ((join g w l k).st n) (v n)
            state n (inl q) d = subst (λ (x : ℕ). Den E v ((join g w l k).st x) (v x)) (sym q)
                (subst (λ (x : VState). Den E v x (v w.idx)) (sym (st_w g w.idx l.idx (xor l.inv w.inv) k)) (fw v f e))
            state n (inr q) (inl r) = den_un v ((join g w l k).st n) (v n)
                (ap (join g w l k).st r ∙ st_l g w.idx l.idx (xor l.inv w.inv) k (λ z. apart (sym z)))
            state n (inr q) (inr r) = subst (λ (x : VState). Den E v x (v n)) (sym (st_other g w.idx l.idx (xor l.inv w.inv) k n q r))
                (f.state n)

  module _ (g : View) (a b : Ty) (v : Val) where
    fw_kept : Fits E v g → val E v a ≡ val E v b → (w : Ty) → val E v w ≡ val E v a → Den E v (kept g w a b) (v w.idx)
    fw_kept f e w ew =
        let x : VState = or_st (turn a.inv (g.st a.idx)) (turn b.inv (g.st b.idx)) in
        let da : Den E v (turn a.inv (g.st a.idx)) (val E v a) = den_turn v a.inv (g.st a.idx) (v a.idx) (f.state a.idx) in
        let db : Den E v (turn b.inv (g.st b.idx)) (val E v b) = den_turn v b.inv (g.st b.idx) (v b.idx) (f.state b.idx) in
        let d : Den E v x (val E v a) = den_or v (turn a.inv (g.st a.idx)) (turn b.inv (g.st b.idx)) (val E v a) da
        (subst (Den E v (turn b.inv (g.st b.idx))) (sym e) db) in
        subst (Den E v (turn w.inv x)) (invert_if_twice E w.inv (v w.idx)) (den_turn v w.inv x (val E v w) (subst (Den E v x) (sym ew) d))

    bk_kept : (w : Ty) → Den E v (kept g w a b) (v w.idx) → val E v w ≡ val E v a → val E v w ≡ val E v b
        → (g.st a.idx ≡ unknown) ⊎ (g.st b.idx ≡ unknown)
        → Den E v (g.st a.idx) (v a.idx) × Den E v (g.st b.idx) (v b.idx)
    bk_kept w d ea eb un =
        let sa : VState = turn a.inv (g.st a.idx) in
        let sb : VState = turn b.inv (g.st b.idx) in
        let x : VState = or_st sa sb in
        let d₁ : Den E v x (val E v w) = subst (λ (s : VState). Den E v s (val E v w)) (turn_twice w.inv x)
        (den_turn v w.inv (turn w.inv x) (v w.idx) d) in
        let d₂ : Den E v sa (val E v w) × Den E v sb (val E v w) = den_split v sa sb (val E v w) (un' un) d₁ in (
          den_back v a.inv (g.st a.idx) (v a.idx) (subst (Den E v sa) ea d₂.0),
          den_back v b.inv (g.st b.idx) (v b.idx) (subst (Den E v sb) eb d₂.1),
        )
      where
        un' : (g.st a.idx ≡ unknown) ⊎ (g.st b.idx ≡ unknown)
            → (turn a.inv (g.st a.idx) ≡ unknown) ⊎ (turn b.inv (g.st b.idx) ≡ unknown)
        un' (inl e) = inl (turn_un a.inv (g.st a.idx) e)
        un' (inr e) = inr (turn_un b.inv (g.st b.idx) e)

  module _ (f : ℕ) (g : View) (a b : Ty) (atop : g.rep a.idx ≡ ty false a.idx) (btop : g.rep b.idx ≡ ty false b.idx)
      (apart : a.idx ≢ b.idx) where
    bind_sol : (o : Bool) → (g.st a.idx ≡ unknown) ⊎ (g.st b.idx ≡ unknown) → Sol g a b (bind f g a b o)
    bind_sol true un = record { back = λ v h. h; fwd = λ v h e. h }
    bind_sol false un = go (dec_lt (g.sz b.idx) (g.sz a.idx))
      where
        w_state : (w l : Ty) (k : VState) (v : Val) → Fits E v (join g w l k) → Den E v k (v w.idx)
        w_state w l k v h = subst (λ (x : VState). Den E v x (v w.idx)) (st_w g w.idx l.idx (xor l.inv w.inv) k) (h.state w.idx)

        go : (d : Dec (g.sz b.idx < g.sz a.idx))
            → Sol g a b (sel d (out (join g a b (kept g a a b)) Success) (out (join g b a (kept g b a b)) Success))
        go (yes d) = join_sol g a b (kept g a a b) btop apart
            (λ v h. bk_kept g a b v a (w_state a b (kept g a a b) v h) refl (join_equal g a b (kept g a a b) btop apart v h) un)
            (λ v h e. fw_kept g a b v h e a refl)
        go (no d) = sol_sym (join_sol g b a (kept g b a b) atop (λ q. apart (sym q))
            (λ v h. let z = bk_kept g a b v b (w_state b a (kept g b a b) v h)
            (join_equal g b a (kept g b a b) atop (λ q. apart (sym q)) v h) refl un in (z.1, z.0))
            (λ v h e. fw_kept g a b v h (sym e) b e))

  -- each pair has one tree
  abbrev pub Equal : Val → List (Ty × Ty) → Type 0
  Equal v = AllPairs (λ p. val E v p.0 ≡ val E v p.1)

  zip_same : (v : Val) (c : Bool) (xs ys : List Ty) → length xs ≡ length ys → Equal v (zipped c xs ys) → vals E v xs ≡ inverts_if E c (vals E v ys)
  unfolding inverts zipped
  zip_same v true [] [] e q = refl
  zip_same v false [] [] e q = refl
  zip_same v c [] (y ∷ ys) e q = absurd (omega arith)
  zip_same v c (x ∷ xs) [] e q = absurd (omega arith)
  zip_same v c (x ∷ xs) (y ∷ ys) e q =
      ap₂ fcons (q (x, flip c y) (Memᴰ.head refl) ∙ invert_if_xor E c y.inv (v y.idx))
      (zip_same v c xs ys (omega arith) (λ p m. q p (Memᴰ.tail m)))
      ∙ sym (inverts_if_cons E c (val E v y) (vals E v ys))

  build_inv : (v : Val) (m : Kind) (c : Bool) → Makeable E m → (c ≡ true → self_dual m.head ≡ true)
      → invert_if E c (build E v m) ≡ node (tree_head E.texts m.head) false (inverts_if E c (vals E v m.kids))
  unfolding build
  build_inv v m false ok d = refl
  build_inv v m true ok d = invert_dual E (tree_head E.texts m.head) false (vals E v m.kids) (dual_tree E m ok ∙ d refl)

  -- the plan and the trees
  record PlanSol (k m : Kind) (c : Bool) (l : Plan) : Type 0 where
    pub equal : (v : Val) → l.base ≡ Success → Equal v l.pairs → build E v k ≡ invert_if E c (build E v m)
    pub pairs : (v : Val) → build E v k ≡ invert_if E c (build E v m) → Equal v l.pairs

  plan_sol : (k m : Kind) (c : Bool) → Makeable E k → Makeable E m → PlanSol k m c (plan E.texts k m c)
  unfolding build
  plan_sol k m c ok om = record {
    equal = λ v b q.
        let g = plan_success E k m c ok om b in
        ap₂ (λ (h : TreeHead) (ts : Forest). node h false ts) g.heads (zip_same v c k.kids m.kids g.lengths (rw g.pairs at q))
        ∙ sym (build_inv v m c om (λ t. sym g.duals ∙ crosses_dual k.head (g.crossed t)));
    pairs = λ v q p w. plan_equal E v k m c ok om q p w;
  }

  record RunSol (g : View) (ps : List (Ty × Ty)) (o : Out) : Type 0 where
    pub back : (v : Val) → Fits E v o.view → Fits E v g
    pub fwd : (v : Val) → Fits E v g → Equal v ps → Fits E v o.view

  abbrev pub SolStep : (View → Ty → Ty → Out) → Type 0
  SolStep u = (g : View) (p q : Ty) → Good g → Kinds (Makeable E) g → Sol g p q (u g p q)

  run_sol : (u : View → Ty → Ty → Out) → Step E u → SolStep u → (g : View) (r : Answer) (ps : List (Ty × Ty)) → Good g → Kinds (Makeable E) g
      → RunSol g ps (run u g r ps)
  unfolding run
  run_sol u sp ih g r [] good kinds = record { back = λ v f. f; fwd = λ v f e. f }
  run_sol u sp ih g r (p ∷ ps) good kinds =
      let s = ih g p.0 p.1 good kinds in
      let w = sp g p.0 p.1 good kinds in
      let t = run_sol u sp ih (u g p.0 p.1).view (both r (u g p.0 p.1).answer) ps w.grow.good (kinds_after kinds w.no_new) in
      record {
        back = λ v f. s.back v (t.back v f);
        fwd = λ v f e. t.fwd v (s.fwd v f (e p (Memᴰ.head refl))) (λ q m. e q (Memᴰ.tail m));
      }

  -- a root's tree and its type's
  type_tree : (ai i : Bool) (va K : Tree) → va ≡ invert_if E i K → invert_if E ai va ≡ invert_if E (xor i ai) K
  type_tree ai i va K e = ap (invert_if E ai) e ∙ sym (invert_if_xor E ai i K) ∙ ap (λ (c : Bool). invert_if E c K) (xor_comm ai i)

  root_tree : (ai i : Bool) (va K : Tree) → invert_if E ai va ≡ invert_if E (xor i ai) K → va ≡ invert_if E i K
  root_tree ai i va K e =
      sym (invert_if_twice E ai va) ∙ ap (invert_if E ai) (e ∙ ap (λ (c : Bool). invert_if E c K) (xor_comm i ai) ∙ invert_if_xor E ai i K)
      ∙ invert_if_twice E ai (invert_if E i K)

  -- from one root's tree to the other's
  cross : (ai i bi j : Bool) (va vb K M : Tree) → K ≡ invert_if E (xor (xor i ai) (xor j bi)) M → va ≡ invert_if E i K
      → invert_if E ai va ≡ invert_if E bi vb → vb ≡ invert_if E j M
  cross ai i bi j va vb K M e ea eq =
      let c : Bool = xor i ai in
      let d : Bool = xor j bi in
      root_tree bi j vb M (sym eq ∙ type_tree ai i va K ea ∙ ap (invert_if E c) e ∙ sym (invert_if_xor E c (xor c d) M)
      ∙ ap (λ (x : Bool). invert_if E x M) (xor_twice c d))

  pub uncross : (ai i bi j : Bool) (va vb K M : Tree) → va ≡ invert_if E i K → vb ≡ invert_if E j M → invert_if E ai va ≡ invert_if E bi vb
      → K ≡ invert_if E (xor (xor i ai) (xor j bi)) M
  uncross ai i bi j va vb K M ea eb eq =
      let c : Bool = xor i ai in
      sym (invert_if_twice E c K) ∙ ap (invert_if E c) (sym (type_tree ai i va K ea) ∙ eq ∙ type_tree bi j vb M eb)
      ∙ sym (invert_if_xor E c (xor j bi) M)

  uninv : (c : Bool) (K M : Tree) → K ≡ invert_if E c M → M ≡ invert_if E c K
  uninv c K M e = sym (invert_if_twice E c M) ∙ ap (invert_if E c) (sym e)

  pub den_known : (v : Val) {s : VState} (t : Tree) {i : Bool} {k : Kind} → s ≡ known i k → Den E v s t → t ≡ invert_if E i (build E v k)
  den_known v t e d = subst (λ (x : VState). Den E v x t) e d

  known_den : (v : Val) {s : VState} (t : Tree) {i : Bool} {k : Kind} → s ≡ known i k → t ≡ invert_if E i (build E v k) → Den E v s t
  known_den v t e d = subst (λ (x : VState). Den E v x t) (sym e) d

  module _ (u : View → Ty → Ty → Out) (sp : Step E u) (ih : SolStep u) (f : ℕ) (g : View) (a b : Ty) (good : Good g) (kinds : Kinds (Makeable E) g)
      (atop : g.rep a.idx ≡ ty false a.idx) (btop : g.rep b.idx ≡ ty false b.idx) (apart : a.idx ≢ b.idx) where
    module _ (i j : Bool) (k m : Kind) (sa : g.st a.idx ≡ known i k) (sb : g.st b.idx ≡ known j m) (l : Plan)
        (ps : PlanSpec E.texts k m l) (pv : PlanSol k m (xor (xor i a.inv) (xor j b.inv)) l) where
      into : (v : Val) → Fits E v g → val E v a ≡ val E v b → Equal v l.pairs
      into v h e =
          pv.pairs v (uncross a.inv i b.inv j (v a.idx) (v b.idx) (build E v k) (build E v m)
          (den_known v (v a.idx) sa (h.state a.idx)) (den_known v (v b.idx) sb (h.state b.idx)) e)

      deep_sol : (o : Out) → RunSpec E.texts g l.base l.pairs o → RunSol g l.pairs o → Stays g o.view a.idx
          → Stays g o.view b.idx
          → (r : Answer) → o.answer ≡ r → Sol g a b (close o.view a b r)
      deep_sol o rs rv ka kb Failure e = record { back = rv.back; fwd = λ v h q. rv.fwd v h (into v h q) }
      deep_sol o rs rv ka kb Indeterminate e = record { back = rv.back; fwd = λ v h q. rv.fwd v h (into v h q) }
      deep_sol o rs rv ka kb Success e = go (dec_lt (o.view.sz b.idx) (o.view.sz a.idx))
        where
          hg : Good o.view
          hg = rs.grow.good

          ok : Mergeable E.texts o.view a.idx b.idx
          ok = deep_ok E u sp f g a b good kinds atop btop apart i j k m sa sb l ps o rs ka kb e

          ha : o.view.st a.idx ≡ known i k
          ha = ka.st ∙ sa

          hb : o.view.st b.idx ≡ known j m
          hb = kb.st ∙ sb

          after : {w : View} → Sol o.view a b (out w Success) → Sol g a b (out w Success)
          after s = record { back = λ v x. rv.back v (s.back v x); fwd = λ v x q. s.fwd v (rv.fwd v x (into v x q)) q }

          -- the two kinds have one tree, in what fits after the join
          meets : (v : Val) {w : View} {x y : Ty} → Spec E.texts o.view x y (out w Success) → Fits E v w
              → build E v k ≡ invert_if E (xor (xor i a.inv) (xor j b.inv)) (build E v m)
          meets v js x =
              let td = rs.joined e in
              pv.equal v td.0 (λ p w. joined_val (kinds_after (kinds_after kinds rs.no_new) js.no_new) x
              (joined_grow hg js.grow (td.1 p w)))

          w_state : (w l : Ty) (v : Val) → Fits E v (join o.view w l (o.view.st w.idx)) → Den E v (o.view.st w.idx) (v w.idx)
          w_state w l v x = subst (λ (y : VState). Den E v y (v w.idx))
              (st_w o.view w.idx l.idx (xor l.inv w.inv) (o.view.st w.idx)) (x.state w.idx)

          go : (d : Dec (o.view.sz b.idx < o.view.sz a.idx))
              → Sol g a b (sel d (out (join o.view a b (o.view.st a.idx)) Success) (out (join o.view b a (o.view.st b.idx)) Success))
          go (yes d) = after (join_sol o.view a b (o.view.st a.idx) ok.jab.ltop apart
              (λ v x. let wa = w_state a b v x in (
                wa,
                known_den v (v b.idx) hb (cross a.inv i b.inv j (v a.idx) (v b.idx) (build E v k) (build E v m)
                    (meets v (join_spec E.texts o.view a b (o.view.st a.idx) hg ok.jab ok.hab) x)
                    (den_known v (v a.idx) ha wa) (join_equal o.view a b (o.view.st a.idx) ok.jab.ltop apart v x)),
              ))
              (λ v x q. x.state a.idx))
          go (no d) = after (sol_sym (join_sol o.view b a (o.view.st b.idx) ok.jba.ltop (λ q. apart (sym q))
              (λ v x. let wb = w_state b a v x in
              let eq = meets v (join_spec E.texts o.view b a (o.view.st b.idx) hg ok.jba ok.hba) x in (
                wb,
                known_den v (v a.idx) ha (cross b.inv j a.inv i (v b.idx) (v a.idx) (build E v m) (build E v k)
                    (uninv (xor (xor i a.inv) (xor j b.inv)) (build E v k) (build E v m) eq
                    ∙ ap (λ (c : Bool). invert_if E c (build E v k)) (xor_comm (xor i a.inv) (xor j b.inv)))
                    (den_known v (v b.idx) hb wb) (join_equal o.view b a (o.view.st b.idx) ok.jba.ltop (λ q. apart (sym q)) v x)),
              ))
              (λ v x q. x.state b.idx)))

    meet_sol_st : (sa sb : VState) → g.st a.idx ≡ sa → g.st b.idx ≡ sb → Sol g a b (meet_st u E.texts f g a b sa sb)
    meet_sol_st unknown sb p q = bind_sol f g a b atop btop apart (occurs f g a.idx b.idx || occurs f g b.idx a.idx) (inl p)
    meet_sol_st (known i k) unknown p q = bind_sol f g a b atop btop apart (occurs f g a.idx b.idx || occurs f g b.idx a.idx) (inr q)
    meet_sol_st (known i k) (known j m) p q =
        let c : Bool = xor (xor i a.inv) (xor j b.inv) in
        let l : Plan = plan E.texts k m c in
        let ok : Makeable E k = kinds a.idx i k p in
        let om : Makeable E m = kinds b.idx j m q in
        let ps : PlanSpec E.texts k m l = plan_spec E k m c ok om in
        deep_sol i j k m p q l ps (plan_sol k m c ok om) (run u g l.base l.pairs) (run_spec E u sp g l.base l.pairs good kinds)
        (run_sol u sp ih g l.base l.pairs good kinds)
        (a_stays E u sp f g a b good kinds atop btop apart i j k m p q l ps) (b_stays E u sp f g a b good kinds atop btop apart i j k m p q l ps)
        (run u g l.base l.pairs).answer refl

  meet_sol : (u : View → Ty → Ty → Out) → Step E u → SolStep u → (f : ℕ) (g : View) (a b : Ty) → Good g → Kinds (Makeable E) g
      → g.rep a.idx ≡ ty false a.idx → g.rep b.idx ≡ ty false b.idx → Sol g a b (meet u E.texts f g a b)
  unfolding meet
  meet_sol u sp ih f g a b good kinds ta tb = go (ℕ_discrete a.idx b.idx)
    where
      go : (d : Dec (a.idx ≡ b.idx)) → Sol g a b
          (sel d (out g (of_bool (same f g a b))) (meet_st u E.texts f g a b (g.st a.idx) (g.st b.idx)))
      go (yes e) = record { back = λ v x. x; fwd = λ v x q. x }
      go (no n) = meet_sol_st u sp ih f g a b good kinds ta tb n (g.st a.idx) (g.st b.idx) refl refl

  -- from the roots to the types that were given
  sol_root : {g : View} {p q : Ty} {o : Out} → Sol g (root_of g p) (root_of g q) o → Sol g p q o
  sol_root {g} {p} {q} s = record { back = s.back; fwd = λ v x e. s.fwd v x (sym (val_root x p) ∙ e ∙ val_root x q) }

  pub unify_sol : (n f : ℕ) → SolStep (unify E.texts n f)
  unfolding unify
  unify_sol n zero g p q good kinds = record { back = λ v x. x; fwd = λ v x e. x }
  unify_sol n (suc f) g p q good kinds =
      sol_root (meet_sol (unify E.texts n f) (unify_spec E n f) (λ g p q h w. unify_sol n f g p q h w) n g (root_of g p) (root_of g q) good kinds
      (good.idem p.idx) (good.idem q.idx))

  -- Success: the trees that fit afterwards are those that fitted before and give the two types one tree
  pub success_fits : (n f : ℕ) (g : View) (p q : Ty) → Good g → Kinds (Makeable E) g → (unify E.texts n f g p q).answer ≡ Success
      → (v : Val) → Fits E v (unify E.texts n f g p q).view ↔ (Fits E v g × (val E v p ≡ val E v q))
  success_fits n f g p q good kinds e v =
      let s = unify_spec E n f g p q good kinds in (
        (λ x. ((unify_sol n f g p q good kinds).back v x, joined_val (kinds_after kinds s.no_new) x (s.joined e))),
        (λ x. (unify_sol n f g p q good kinds).fwd v x.0 x.1),
      )
