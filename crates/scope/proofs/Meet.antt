-- What a unify does to a view: the cases of a call, and the induction over the depth. Assumes nothing.
use mathlib.Core.Path.{◌≡◌, refl, sym, ap, subst, ◌∙◌}
use mathlib.Core.List.{List, [], ◌∷◌, Memᴰ}
use mathlib.Core.Bool.{Bool, true, false, not, ◌||◌}
use mathlib.Core.Logic.{◌≢◌, ◌⊎◌, inl, inr}
use Prim.Native.Nat.{ℕ, zero, suc, ◌<◌}
use native.Mathlib.Omega.{arith}
use native.Mathlib.Decide.{ℕ_discrete, dec_lt}
use lib.ListN.{length}
use Rattle.scope.specs.Base.{xor}
use Rattle.scope.specs.Names.{Texts}
use Rattle.scope.specs.Chart.{Env}
use Rattle.scope.specs.Types.{Ty, ty, flip}
use Rattle.scope.specs.Nodes.{Kind}
use Rattle.scope.specs.Answers.{Answer, Success, Failure, Indeterminate, of_bool}
use Rattle.scope.specs.Unify.{Plan, plan, zipped}
use Rattle.scope.proofs.View.{VState, unknown, known, View, sel, root_of, Kid, Below, one, more, Good, Out, out, run}
use Rattle.scope.proofs.View.{occurs, self_inverse, same, bind, close, join, kept, turn, or_st, meet_st, meet, unify}
use Rattle.scope.proofs.TestLaws.{tf, or_no}
use Rattle.scope.proofs.ViewLaws.{idx_eq, same?, not_known, rep_miss, st_w, st_l, st_other, irrefl, below_join, Kinds}
use Rattle.scope.proofs.PlanLaws.{Makeable, plan_left, plan_right, plan_success}
use Rattle.scope.proofs.Acyclic.{Joins}
use Rattle.scope.proofs.Grow.{ri, Heads, heads_sym, Alike, anil, acons, alike_sym, alike_mem, grow_trans, Grow, mono_idx, Self, Joined, agree}
use Rattle.scope.proofs.Grow.{selfly, joined_idx, joined_sym, root_grow, link_joined, below_top, Kept, kept_same, Holds, link_grow}
use Rattle.scope.proofs.Stay.{no_new_trans, AllPairs, Above, Tied, Stays, Spec, spec_same, not_success, unsure_success, RunSpec, Step, run_spec, below_stays, stays_trans}
use Rattle.scope.proofs.Occurs.{occurs_no, self_sound}

zip_alike : {h : View} (i : Bool) (xs ys : List Ty) → length xs ≡ length ys → Tied h (zipped i xs ys) → Alike h xs ys
unfolding zipped
zip_alike i [] [] e t = anil
zip_alike i [] (y ∷ ys) e t = absurd (omega arith)
zip_alike i (x ∷ xs) [] e t = absurd (omega arith)
zip_alike i (x ∷ xs) (y ∷ ys) e t = acons (joined_idx (t (x, flip i y) (Memᴰ.head refl)))
    (zip_alike i xs ys (omega arith) (λ p m. t p (Memᴰ.tail m)))

-- what the induction needs of a plan, and all that it needs
pub record PlanSpec (X : Texts) (k m : Kind) (l : Plan) : Type 0 where
  pub left : (p : Ty × Ty) → Memᴰ p l.pairs → Memᴰ p.0 k.kids
  pub right : (p : Ty × Ty) → Memᴰ p l.pairs → (y : Ty) × Memᴰ y m.kids × (y.idx ≡ p.1.idx)
  pub tied : {h : View} → l.base ≡ Success → Tied h l.pairs → Heads X k.head m.head × Alike h k.kids m.kids

pub plan_spec : (e : Env) (k m : Kind) (i : Bool) → Makeable e k → Makeable e m → PlanSpec e.texts k m (plan e.texts k m i)
plan_spec e k m i ok om = record {
  left = λ p w. plan_left e.texts k m i p w;
  right = λ p w. let z = plan_right e.texts k m i p w in (z.0, z.1, sym (idx_eq z.2));
  tied = λ b t.
      let g = plan_success e k m i ok om b in
      (record { trees = g.heads; codes = g.codes; duals = g.duals }, zip_alike i k.kids m.kids g.lengths (rw g.pairs at t));
}

spec_sym : {X : Texts} {g : View} {p q : Ty} {o : Out} → Spec X g p q o → Spec X g q p o
spec_sym s = record {
  grow = s.grow;
  no_new = s.no_new;
  stays = λ a b. s.stays a (elim b [ inl x ↦ inr x | inr x ↦ inl x ]);
  joined = λ e. joined_sym (s.joined e);
}

-- joining two roots
module _ (X : Texts) (g : View) (w l : Ty) (k : VState) (good : Good g) (ok : Joins g w.idx l.idx k)
    (hold : Holds X g w.idx l.idx k) where
  pub join_spec : Spec X g w l (out (join g w l k) Success)
  join_spec = record {
    grow = link_grow g w.idx l.idx (xor l.inv w.inv) k good ok hold;
    no_new = record { was = λ a i m s. was a i m s (same? a w.idx) (same? a l.idx) };
    stays = λ a b. elim b [
      | inl x ↦ under_w a (subst (Below g a) (idx_eq ok.wtop) x)
      | inr x ↦ under_l a (subst (Below g a) (idx_eq ok.ltop) x)
    ];
    joined = λ e. agree (link_joined g w.idx l.idx (xor l.inv w.inv) k good ok w.inv l.inv refl);
  }
    where
      of : (m : Kind) → ((j : Bool) × (g.st w.idx ≡ known j m)) ⊎ ((j : Bool) × (g.st l.idx ≡ known j m))
          → (b : ℕ) × (j : Bool) × (g.st b ≡ known j m)
      of m (inl e) = (w.idx, e.0, e.1)
      of m (inr e) = (l.idx, e.0, e.1)

      was : (a : ℕ) (i : Bool) (m : Kind) → (join g w l k).st a ≡ known i m → (a ≡ w.idx) ⊎ (a ≢ w.idx) → (a ≡ l.idx) ⊎ (a ≢ l.idx)
          → (b : ℕ) × (j : Bool) × (g.st b ≡ known j m)
      was a i m s (inl e) d = of m (ok.from i m (sym (st_w g w.idx l.idx (xor l.inv w.inv) k) ∙ ap (join g w l k).st (sym e) ∙ s))
      was a i m s (inr e) (inl q) =
          absurd (not_known (sym (st_l g w.idx l.idx (xor l.inv w.inv) k (λ z. ok.apart (sym z))) ∙ ap (join g w l k).st (sym q) ∙ s))
      was a i m s (inr e) (inr q) = (a, i, sym (st_other g w.idx l.idx (xor l.inv w.inv) k a e q) ∙ s)

      keep : (a : ℕ) → g.rep a ≡ ty false a → a ≢ w.idx → a ≢ l.idx → Stays g (join g w l k) a
      keep a t nw nl = record {
        rep = rep_miss g w.idx l.idx (xor l.inv w.inv) k a (λ e. nl (sym (idx_eq t) ∙ e));
        st = st_other g w.idx l.idx (xor l.inv w.inv) k a nw nl;
      }

      under_w : (a : ℕ) → Below g a w.idx → Stays g (join g w l k) a
      under_w a b = keep a (below_top b) (λ e. irrefl (good.wf w.idx) (subst (λ (x : ℕ). Below g x w.idx) e b))
          (λ e. ok.nol (subst (λ (x : ℕ). Below g x w.idx) e b))

      under_l : (a : ℕ) → Below g a l.idx → Stays g (join g w l k) a
      under_l a b = keep a (below_top b) (λ e. ok.now (subst (λ (x : ℕ). Below g x l.idx) e b))
          (λ e. irrefl (good.wf l.idx) (subst (λ (x : ℕ). Below g x l.idx) e b))

-- the state that a bound variable takes
known_inj : {i j : Bool} {k m : Kind} → known i k ≡ known j m → k ≡ m
known_inj {i} {j} {k} {m} e = cc

kept_from : (wi ai bi : Bool) (sa sb : VState) (i : Bool) (m : Kind) → turn wi (or_st (turn ai sa) (turn bi sb)) ≡ known i m
    → ((j : Bool) × (sa ≡ known j m)) ⊎ ((j : Bool) × (sb ≡ known j m))
kept_from wi ai bi unknown unknown i m e = absurd (not_known e)
kept_from wi ai bi unknown (known j k) i m e = inr (j, ap (known j) (known_inj e))
kept_from wi ai bi (known j k) sb i m e = inl (j, ap (known j) (known_inj e))

kept_a : {X : Texts} {g : View} (wi ai bi : Bool) (sa sb : VState) (i : Bool) (m : Kind) → sa ≡ known i m
    → Kept X g (turn wi (or_st (turn ai sa) (turn bi sb))) m
kept_a wi ai bi sa sb i m e = kept_same (xor wi (xor ai i)) (ap (λ (s : VState). turn wi (or_st (turn ai s) (turn bi sb))) e)

kept_b : {X : Texts} {g : View} (wi ai bi : Bool) (sa sb : VState) (i : Bool) (m : Kind) → (sa ≡ unknown) ⊎ (sb ≡ unknown) → sb ≡ known i m
    → Kept X g (turn wi (or_st (turn ai sa) (turn bi sb))) m
kept_b wi ai bi sa sb i m (inl u) e =
    kept_same (xor wi (xor bi i)) (ap (λ (s : VState). turn wi (or_st (turn ai s) (turn bi sb))) u ∙ ap (λ (s : VState). turn wi (turn bi s)) e)
kept_b wi ai bi sa sb i m (inr u) e = absurd (not_known (sym u ∙ e))

swap⊎ : {A B : Type 0} → A ⊎ B → B ⊎ A
swap⊎ (inl a) = inr a
swap⊎ (inr b) = inl b

module _ (X : Texts) (f : ℕ) (g : View) (a b : Ty) (good : Good g) (atop : g.rep a.idx ≡ ty false a.idx)
    (btop : g.rep b.idx ≡ ty false b.idx) (apart : a.idx ≢ b.idx) where
  bind_spec : (o : Bool) → (occurs f g a.idx b.idx || occurs f g b.idx a.idx) ≡ o
      → (g.st a.idx ≡ unknown) ⊎ (g.st b.idx ≡ unknown) → Spec X g a b (bind f g a b o)
  bind_spec true e un = spec_same Failure good (λ q. absurd (not_success q))
  bind_spec false e un = go (dec_lt (g.sz b.idx) (g.sz a.idx))
    where
      no_ab : Below g b.idx a.idx → ⊥
      no_ab = (occurs_no f g a.idx b.idx (or_no (occurs f g a.idx b.idx) (occurs f g b.idx a.idx) e).0).1

      no_ba : Below g a.idx b.idx → ⊥
      no_ba = (occurs_no f g b.idx a.idx (or_no (occurs f g a.idx b.idx) (occurs f g b.idx a.idx) e).1).1

      sa : VState
      sa = g.st a.idx

      sb : VState
      sb = g.st b.idx

      go : (d : Dec (g.sz b.idx < g.sz a.idx))
          → Spec X g a b (sel d (out (join g a b (kept g a a b)) Success) (out (join g b a (kept g b a b)) Success))
      go (yes d) = join_spec X g a b (kept g a a b) good
          (record {
            wtop = atop;
            ltop = btop;
            apart = apart;
            now = no_ba;
            nol = no_ab;
            from = λ i m q. kept_from a.inv a.inv b.inv sa sb i m q;
          })
          (record { onw = λ i m q. kept_a a.inv a.inv b.inv sa sb i m q; onl = λ i m q. kept_b a.inv a.inv b.inv sa sb i m un q })
      go (no d) = spec_sym (join_spec X g b a (kept g b a b) good
          (record {
            wtop = btop;
            ltop = atop;
            apart = λ q. apart (sym q);
            now = no_ab;
            nol = no_ba;
            from = λ i m q. swap⊎ (kept_from b.inv a.inv b.inv sa sb i m q);
          })
          (record { onw = λ i m q. kept_b b.inv a.inv b.inv sa sb i m un q; onl = λ i m q. kept_a b.inv a.inv b.inv sa sb i m q }))

-- what lets a and b be joined, whichever stays
pub record Mergeable (X : Texts) (h : View) (a b : ℕ) : Type 0 where
  pub jab : Joins h a b (h.st a)
  pub jba : Joins h b a (h.st b)
  pub hab : Holds X h a b (h.st a)
  pub hba : Holds X h b a (h.st b)

-- two known roots whose children have the same roots, in a store without cycles: neither contains the other
not_under : {h : View} {a b : ℕ} {i j : Bool} {k m : Kind} → Good h → h.rep b ≡ ty false b → h.st a ≡ known i k → h.st b ≡ known j m
    → Alike h k.kids m.kids → Below h a b → ⊥
not_under {h} {a} {b} {i} {j} {k} {m} good bt sa sb al = go
  where
    kid' : {y : ℕ} → Kid h a y → Kid h b y
    kid' {y} c =
        let e : c.kind ≡ k = known_inj (sym c.state ∙ sa) in
        let z = alike_mem al (subst (λ (x : Kind). Memᴰ c.kid x.kids) e c.mem) in
        record { inv = j; kind = m; kid = z.0; top = bt; state = sb; mem = z.1; to = sym z.2 ∙ c.to }

    go : Below h a b → ⊥
    go (one c) = irrefl (good.wf b) (one (kid' c))
    go (more c r) = irrefl (good.wf b) (more (kid' c) r)

module _ (e : Env) (u : View → Ty → Ty → Out) (ih : Step e u) (f : ℕ) (g : View) (a b : Ty) (good : Good g) (kinds : Kinds (Makeable e) g)
    (atop : g.rep a.idx ≡ ty false a.idx) (btop : g.rep b.idx ≡ ty false b.idx) (apart : a.idx ≢ b.idx) where
  module _ (i j : Bool) (k m : Kind) (sa : g.st a.idx ≡ known i k) (sb : g.st b.idx ≡ known j m) (l : Plan)
      (ps : PlanSpec e.texts k m l) where
    kid_a : (p : Ty × Ty) → Memᴰ p l.pairs → Kid g a.idx (ri g p.0)
    kid_a p w = record { inv = i; kind = k; kid = p.0; top = atop; state = sa; mem = ps.left p w; to = refl }

    kid_b : (p : Ty × Ty) → Memᴰ p l.pairs → Kid g b.idx (ri g p.1)
    kid_b p w = let y = ps.right p w in record {
      inv = j;
      kind = m;
      kid = y.0;
      top = btop;
      state = sb;
      mem = y.1;
      to = ap (λ (n : ℕ). (g.rep n).idx) y.2;
    }

    -- whatever is above a or b is above each pair
    over : (c : ℕ) → Above g c (a, b) → AllPairs (Above g c) l.pairs
    over c (inl x) p w = inl (below_join (subst (Below g c) (idx_eq atop) x) (one (kid_a p w)))
    over c (inr x) p w = inr (below_join (subst (Below g c) (idx_eq btop) x) (one (kid_b p w)))

    -- the two roots themselves stay, whatever the children answer
    pub a_stays : Stays g (run u g l.base l.pairs).view a.idx
    a_stays = (run_spec e u ih g l.base l.pairs good kinds).stays a.idx (λ p w. inl (one (kid_a p w)))

    pub b_stays : Stays g (run u g l.base l.pairs).view b.idx
    b_stays = (run_spec e u ih g l.base l.pairs good kinds).stays b.idx (λ p w. inr (one (kid_b p w)))

    -- after the children's Success the two roots may be joined, either way round
    pub deep_ok : (o : Out) → RunSpec e.texts g l.base l.pairs o → Stays g o.view a.idx → Stays g o.view b.idx
        → o.answer ≡ Success → Mergeable e.texts o.view a.idx b.idx
    deep_ok o rs ka kb ans = record {
      jab = record { wtop = ta; ltop = tb; apart = apart; now = n_ab; nol = n_ba; from = λ x y q. inl (x, q) };
      jba = record { wtop = tb; ltop = ta; apart = λ q. apart (sym q); now = n_ba; nol = n_ab; from = λ x y q. inl (x, q) };
      hab = record {
        onw = λ x y q. kept_same x q;
        onl = λ x y q. let z : y ≡ m = known_inj (sym q ∙ hb) in record {
          inv = i;
          kind = k;
          is = ha;
          heads = rw z (heads_sym hk);
          alike = rw z (alike_sym al);
        };
      };
      hba = record {
        onw = λ x y q. kept_same x q;
        onl = λ x y q. let z : y ≡ k = known_inj (sym q ∙ ha) in record { inv = j; kind = m; is = hb; heads = rw z hk; alike = rw z al };
      };
    }
      where
        hg : Good o.view
        hg = rs.grow.good

        td : (l.base ≡ Success) × Tied o.view l.pairs
        td = rs.joined ans

        hk : Heads e.texts k.head m.head
        hk = (ps.tied td.0 td.1).0

        al : Alike o.view k.kids m.kids
        al = (ps.tied td.0 td.1).1

        ha : o.view.st a.idx ≡ known i k
        ha = ka.st ∙ sa

        hb : o.view.st b.idx ≡ known j m
        hb = kb.st ∙ sb

        ta : o.view.rep a.idx ≡ ty false a.idx
        ta = ka.rep ∙ atop

        tb : o.view.rep b.idx ≡ ty false b.idx
        tb = kb.rep ∙ btop

        n_ab : Below o.view a.idx b.idx → ⊥
        n_ab = not_under hg tb ha hb al

        n_ba : Below o.view b.idx a.idx → ⊥
        n_ba = not_under hg ta hb ha (alike_sym al)

    deep_spec : (o : Out) → RunSpec e.texts g l.base l.pairs o → Stays g o.view a.idx → Stays g o.view b.idx
        → (r : Answer) → o.answer ≡ r → Spec e.texts g a b (close o.view a b r)
    deep_spec o rs ka kb Failure ans = record {
      grow = rs.grow;
      no_new = rs.no_new;
      stays = λ c x. rs.stays c (over c x);
      joined = λ q. absurd (not_success q);
    }
    deep_spec o rs ka kb Indeterminate ans = record {
      grow = rs.grow;
      no_new = rs.no_new;
      stays = λ c x. rs.stays c (over c x);
      joined = λ q. absurd (unsure_success q);
    }
    deep_spec o rs ka kb Success ans = go (dec_lt (o.view.sz b.idx) (o.view.sz a.idx))
      where
        h : View
        h = o.view

        hg : Good o.view
        hg = rs.grow.good

        ok : Mergeable e.texts o.view a.idx b.idx
        ok = deep_ok o rs ka kb ans

        after : {v : View} → Spec e.texts o.view a b (out v Success) → Spec e.texts g a b (out v Success)
        after s = record {
          grow = grow_trans hg rs.grow s.grow;
          no_new = no_new_trans rs.no_new s.no_new;
          stays = λ c x. let s₁ = rs.stays c (over c x) in stays_trans s₁
              (s.stays c (elim x [ inl y ↦ inl (below_stays a rs.grow s₁ y) | inr y ↦ inr (below_stays b rs.grow s₁ y) ]));
          joined = s.joined;
        }

        go : (d : Dec (h.sz b.idx < h.sz a.idx))
            → Spec e.texts g a b (sel d (out (join h a b (h.st a.idx)) Success) (out (join h b a (h.st b.idx)) Success))
        go (yes d) = after (join_spec e.texts o.view a b (o.view.st a.idx) hg ok.jab ok.hab)
        go (no d) = after (spec_sym (join_spec e.texts o.view b a (o.view.st b.idx) hg ok.jba ok.hba))

  meet_st_lem : (sa sb : VState) → g.st a.idx ≡ sa → g.st b.idx ≡ sb → Spec e.texts g a b (meet_st u e.texts f g a b sa sb)
  meet_st_lem unknown sb p q = bind_spec e.texts f g a b good atop btop apart _ refl (inl p)
  meet_st_lem (known i k) unknown p q = bind_spec e.texts f g a b good atop btop apart _ refl (inr q)
  meet_st_lem (known i k) (known j m) p q =
      let c : Bool = xor (xor i a.inv) (xor j b.inv) in
      let l : Plan = plan e.texts k m c in
      let ps : PlanSpec e.texts k m l = plan_spec e k m c (kinds a.idx i k p) (kinds b.idx j m q) in
      deep_spec i j k m p q l ps (run u g l.base l.pairs) (run_spec e u ih g l.base l.pairs good kinds)
      (a_stays i j k m p q l ps) (b_stays i j k m p q l ps) (run u g l.base l.pairs).answer refl

xor_no : (a b : Bool) → not (xor a b) ≡ true → a ≡ b
xor_no false false e = refl
xor_no false true e = tf (sym e)
xor_no true false e = tf (sym e)
xor_no true true e = refl

same_joined : (f : ℕ) (g : View) (a b : Ty) → g.rep a.idx ≡ ty false a.idx → a.idx ≡ b.idx → of_bool (same f g a b) ≡ Success → Joined g a b
same_joined f g a b ta e = go (not (xor a.inv b.inv)) (self_inverse false f g a.idx) refl refl
  where
    go : (x y : Bool) → not (xor a.inv b.inv) ≡ x → self_inverse false f g a.idx ≡ y → of_bool (x || y) ≡ Success → Joined g a b
    go true y p q r = agree (ap (λ (z : Ty). root_of g z) (λ i. record { inv = xor_no a.inv b.inv p i; idx = e i }))
    go false true p q r = selfly (ap (λ (n : ℕ). (g.rep n).idx) e) (subst (Self g) (sym (idx_eq ta)) (self_sound f g a.idx q))
    go false false p q r = absurd (not_success r)

meet_spec : (e : Env) (u : View → Ty → Ty → Out) → Step e u → (f : ℕ) (g : View) (a b : Ty) → Good g → Kinds (Makeable e) g
    → g.rep a.idx ≡ ty false a.idx → g.rep b.idx ≡ ty false b.idx → Spec e.texts g a b (meet u e.texts f g a b)
unfolding meet
meet_spec e u ih f g a b good kinds ta tb = go (ℕ_discrete a.idx b.idx)
  where
    go : (d : Dec (a.idx ≡ b.idx))
        → Spec e.texts g a b (sel d (out g (of_bool (same f g a b))) (meet_st u e.texts f g a b (g.st a.idx) (g.st b.idx)))
    go (yes q) = spec_same (of_bool (same f g a b)) good (λ r. same_joined f g a b ta q r)
    go (no n) = meet_st_lem e u ih f g a b good kinds ta tb n (g.st a.idx) (g.st b.idx) refl refl

-- from the roots to the types that were given
joined_root : {X : Texts} {g h : View} {p q : Ty} → Good g → Grow X g h → Joined h (root_of g p) (root_of g q) → Joined h p q
joined_root {X} {g} {h} {p} {q} good w (agree e) = agree (root_grow w p ∙ e ∙ sym (root_grow w q))
joined_root {X} {g} {h} {p} {q} good w (selfly e s) = selfly (mono_idx w p.idx ∙ e ∙ sym (mono_idx w q.idx))
    (subst (Self h) (sym (mono_idx w p.idx)) s)

spec_root : {X : Texts} {g : View} {p q : Ty} {o : Out} → Good g → Spec X g (root_of g p) (root_of g q) o → Spec X g p q o
spec_root {X} {g} {p} {q} {o} good s = record {
  grow = s.grow;
  no_new = s.no_new;
  stays = λ a x. s.stays a (elim x [
    | inl y ↦ inl (subst (Below g a) (sym (idx_eq (good.idem p.idx))) y)
    | inr y ↦ inr (subst (Below g a) (sym (idx_eq (good.idem q.idx))) y)
  ]);
  joined = λ e. joined_root good s.grow (s.joined e);
}

pub unify_spec : (e : Env) (n f : ℕ) → Step e (unify e.texts n f)
unfolding unify
unify_spec e n zero g p q good kinds = spec_same Failure good (λ r. absurd (not_success r))
unify_spec e n (suc f) g p q good kinds =
    spec_root good (meet_spec e (unify e.texts n f) (λ g p q h w. unify_spec e n f g p q h w) n g (root_of g p) (root_of g q) good kinds
    (good.idem p.idx) (good.idem q.idx))
