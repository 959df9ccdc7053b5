-- Two roots joined: paths that ended in the one go on to the other, and the view is the linked view. Assumes nothing.
use mathlib.Core.Path.{◌≡◌, sym, ap, subst, ◌∙◌}
use mathlib.Core.List.{List}
use mathlib.Core.Bool.{Bool, false}
use mathlib.Core.Logic.{◌≢◌, ◌⊎◌, inl, inr}
use Prim.Native.Nat.{ℕ, suc, ◌+◌, ◌^◌, ◌≤◌, ◌<◌}
use native.Mathlib.Omega.{arith}
use native.Mathlib.Decide.{ℕ_discrete}
use lib.ListN.{length, set, length-set}
use lib.Pow.{pow_mono}
use lib.Seq.{get_or-set_same, get_or-set_other}
use Rattle.scope.specs.Base.{xor}
use Rattle.scope.specs.Types.{Ty, ty, flip}
use Rattle.scope.specs.Nodes.{State, Node, Root, Child, at, state_of, size_of}
use Rattle.scope.specs.Unify.{join}
use Rattle.scope.proofs.View.{View, sel, link, seen, view}
use Rattle.scope.proofs.ViewLaws.{same?, sel_yes, sel_no, rep_hit, rep_miss, st_w, st_l, st_other, xor_assoc}
use Rattle.scope.proofs.Paths.{beyond, Leads, top, up, not_child, child_inj, flip_false, Lead, Forest, Tidied, lead_all, rep_leads, top_root}

-- 2 to the number of a node's parent steps is at most its root's size
abbrev pub Shallow : List Node → Type 0
Shallow ns = (n : ℕ) → n < length ns → (l : Lead ns n) × (2 ^ l.deep ≤ size_of (at ns l.to.idx))

pub tidied_shallow : {ns ns' : List Node} → Tidied ns ns' → Shallow ns → Shallow ns'
tidied_shallow {ns} {ns'} t ok n h = go (ok n (subst (λ (x : ℕ). n < x) t.len h))
  where
    go : (l : Lead ns n) × (2 ^ l.deep ≤ size_of (at ns l.to.idx)) → (l : Lead ns' n) × (2 ^ l.deep ≤ size_of (at ns' l.to.idx))
    go l =
        let p = t.paths l.0.path in
        (record { deep = p.0; to = l.0.to; path = p.2 }, omega (arith, pow_mono p.1, l.1, t.szs l.0.to.idx))

-- two different roots of a store
pub record Roots (ns : List Node) (w l : Ty) : Type 0 where
  pub w_inside : w.idx < length ns
  pub l_inside : l.idx < length ns
  pub apart : w.idx ≢ l.idx
  pub w_state : State
  pub w_size : ℕ
  pub w_root : at ns w.idx ≡ Root w_state w_size
  pub l_state : State
  pub l_size : ℕ
  pub l_root : at ns l.idx ≡ Root l_state l_size

pub roots_of : {ns : List Node} (w l : Ty) → Forest ns → w.idx < length ns → l.idx < length ns → w.idx ≢ l.idx
    → (view ns).rep w.idx ≡ ty false w.idx → (view ns).rep l.idx ≡ ty false l.idx → Roots ns w l
roots_of w l ok hw hl ne tw tl =
    let a = top_root ok w.idx tw in
    let b = top_root ok l.idx tl in
    record { w_inside = hw; l_inside = hl; apart = ne; w_state = a.0; w_size = a.1; w_root = a.2; l_state = b.0; l_size = b.1; l_root = b.2 }

module _ (ns : List Node) (w l : Ty) (st : State) (two : Roots ns w l) where
  w_node : Node
  w_node = Root st (size_of (at ns w.idx) + size_of (at ns l.idx))

  pub join_w : at (join ns w l st) w.idx ≡ Root st (size_of (at ns w.idx) + size_of (at ns l.idx))
  unfolding w_node
  join_w = get_or-set_other (set ns w.idx w_node) l.idx w.idx (Child (flip l.inv w)) beyond two.apart
      ∙ get_or-set_same ns w.idx w_node beyond two.w_inside

  pub join_l : at (join ns w l st) l.idx ≡ Child (flip l.inv w)
  unfolding w_node
  join_l = get_or-set_same (set ns w.idx w_node) l.idx (Child (flip l.inv w)) beyond
      (subst (λ (x : ℕ). l.idx < x) (sym (length-set ns w.idx w_node)) two.l_inside)

  pub join_other : (n : ℕ) → n ≢ w.idx → n ≢ l.idx → at (join ns w l st) n ≡ at ns n
  unfolding w_node
  join_other n a b = get_or-set_other (set ns w.idx w_node) l.idx n (Child (flip l.inv w)) beyond b ∙ get_or-set_other ns w.idx n w_node beyond a

  pub join_len : length (join ns w l st) ≡ length ns
  unfolding w_node
  join_len = length-set (set ns w.idx w_node) l.idx (Child (flip l.inv w)) ∙ length-set ns w.idx w_node

  -- where a path to the root t leads afterwards
  abbrev On : ℕ → ℕ → Ty → Type 0
  On m d t = ((t.idx ≡ l.idx) × Leads (join ns w l st) m (suc d) (ty (xor t.inv (xor l.inv w.inv)) w.idx))
      ⊎ ((t.idx ≢ l.idx) × Leads (join ns w l st) m d t)

  -- paths that ended in l go one step further
  join_path : {m d : ℕ} {t : Ty} → Leads ns m d t → On m d t
  join_path (top {n = m} st' z e) = go (same? m l.idx) (same? m w.idx)
    where
      go : (m ≡ l.idx) ⊎ (m ≢ l.idx) → (m ≡ w.idx) ⊎ (m ≢ w.idx) → On m 0 (ty false m)
      go (inl q) d = inl (
        q,
        subst (λ (x : ℕ). Leads (join ns w l st) x 1 (flip l.inv w)) (sym q)
            (subst (Leads (join ns w l st) l.idx 1) (flip_false (xor l.inv w.inv) w.idx) (up (flip l.inv w) join_l (top st _ join_w))),
      )
      go (inr q) (inl r) = inr (q, top st _ (ap (at (join ns w l st)) r ∙ join_w))
      go (inr q) (inr r) = inr (q, top st' z (join_other m r q ∙ e))
  join_path (up {n = m} {d = d} {r = t} v e p) = go (join_path p)
    where
      at_m : at (join ns w l st) m ≡ Child v
      at_m = join_other m (λ q. not_child (sym two.w_root ∙ ap (at ns) (sym q) ∙ e)) (λ q. not_child (sym two.l_root ∙ ap (at ns) (sym q) ∙ e)) ∙ e

      go : On v.idx d t → On m (suc d) (flip v.inv t)
      go (inl q) = inl (
        q.0,
        subst (λ (b : Bool). Leads (join ns w l st) m (suc (suc d)) (ty b w.idx))
            (sym (xor_assoc v.inv t.inv (xor l.inv w.inv))) (up v at_m q.1),
      )
      go (inr q) = inr (q.0, up v at_m q.1)

  module _ (ok : Forest ns) where
    pub join_forest : Forest (join ns w l st)
    join_forest = record {
      lead = λ n h. lead n (ok.lead n (subst (λ (x : ℕ). n < x) join_len h));
      par = λ n t e. subst (λ (x : ℕ). t.idx < x) (sym join_len) (par n t e (same? n w.idx) (same? n l.idx));
    }
      where
        lead : (n : ℕ) → Lead ns n → Lead (join ns w l st) n
        lead n a = go (join_path a.path)
          where
            go : On n a.deep a.to → Lead (join ns w l st) n
            go (inl q) = record { deep = suc a.deep; to = ty (xor a.to.inv (xor l.inv w.inv)) w.idx; path = q.1 }
            go (inr q) = record { deep = a.deep; to = a.to; path = q.1 }

        par : (n : ℕ) (t : Ty) → at (join ns w l st) n ≡ Child t → (n ≡ w.idx) ⊎ (n ≢ w.idx) → (n ≡ l.idx) ⊎ (n ≢ l.idx) → t.idx < length ns
        par n t e (inl q) d = absurd (not_child (sym join_w ∙ ap (at (join ns w l st)) (sym q) ∙ e))
        par n t e (inr q) (inl r) = subst (λ (x : Ty). x.idx < length ns) (child_inj (sym join_l ∙ ap (at (join ns w l st)) (sym r) ∙ e)) two.w_inside
        par n t e (inr q) (inr r) = ok.par n t (sym (join_other n q r) ∙ e)

    -- the larger root stays
    pub join_shallow : size_of (at ns l.idx) ≤ size_of (at ns w.idx) → Shallow ns → Shallow (join ns w l st)
    join_shallow le low n h = at_n (low n (subst (λ (x : ℕ). n < x) join_len h))
      where
        at_n : (a : Lead ns n) × (2 ^ a.deep ≤ size_of (at ns a.to.idx)) → (b : Lead (join ns w l st) n) × (2 ^ b.deep ≤ size_of (at (join ns w l st) b.to.idx))
        at_n a = go (join_path a.0.path) (same? a.0.to.idx w.idx)
          where
            go : On n a.0.deep a.0.to → (a.0.to.idx ≡ w.idx) ⊎ (a.0.to.idx ≢ w.idx)
                → (b : Lead (join ns w l st) n) × (2 ^ b.deep ≤ size_of (at (join ns w l st) b.to.idx))
            go (inl q) d = (
              record { deep = suc a.0.deep; to = ty (xor a.0.to.inv (xor l.inv w.inv)) w.idx; path = q.1 },
              omega (arith, a.1, ap (λ (x : ℕ). size_of (at ns x)) q.0, ap size_of join_w, le),
            )
            go (inr q) (inl e) = (
              record { deep = a.0.deep; to = a.0.to; path = q.1 },
              omega (arith, a.1, ap (λ (x : ℕ). size_of (at ns x)) e, ap (λ (x : ℕ). size_of (at (join ns w l st) x)) e, ap size_of join_w),
            )
            go (inr q) (inr e) =
                (record { deep = a.0.deep; to = a.0.to; path = q.1 }, omega (arith, a.1, ap size_of (join_other a.0.to.idx e q.0)))

    pub join_view : view (join ns w l st) ≡ link (view ns) w.idx l.idx (xor l.inv w.inv) (seen st)
    unfolding view link
    join_view = λ i. record
        { rep = λ n. reps n i; st = λ n. sts n (same? n w.idx) (same? n l.idx) i; sz = λ n. szs n (same? n w.idx) (same? n l.idx) i }
      where
        c : Bool
        c = xor l.inv w.inv

        G : View
        G = link (view ns) w.idx l.idx (xor l.inv w.inv) (seen st)

        reps : (n : ℕ) → (view (join ns w l st)).rep n ≡ G.rep n
        reps n = go (lead_all ok n)
          where
            go : Lead ns n → (view (join ns w l st)).rep n ≡ G.rep n
            go a = on (join_path a.path)
              where
                e : (view ns).rep n ≡ a.to
                e = rep_leads a.path

                on : On n a.deep a.to → (view (join ns w l st)).rep n ≡ G.rep n
                on (inl q) = rep_leads q.1 ∙ ap (λ (x : Ty). ty (xor x.inv c) w.idx) (sym e)
                    ∙ sym (rep_hit (view ns) w.idx l.idx c (seen st) n (ap (λ (x : Ty). x.idx) e ∙ q.0))
                on (inr q) = rep_leads q.1 ∙ sym e
                    ∙ sym (rep_miss (view ns) w.idx l.idx c (seen st) n (λ z. q.0 (ap (λ (x : Ty). x.idx) (sym e) ∙ z)))

        sts : (n : ℕ) → (n ≡ w.idx) ⊎ (n ≢ w.idx) → (n ≡ l.idx) ⊎ (n ≢ l.idx) → (view (join ns w l st)).st n ≡ G.st n
        sts n (inl q) d = ap (λ (x : Node). seen (state_of x)) (ap (at (join ns w l st)) q ∙ join_w) ∙ sym (st_w (view ns) w.idx l.idx c (seen st)) ∙ ap G.st (sym q)
        sts n (inr q) (inl r) = ap (λ (x : Node). seen (state_of x)) (ap (at (join ns w l st)) r ∙ join_l)
            ∙ sym (st_l (view ns) w.idx l.idx c (seen st) (λ z. two.apart (sym z))) ∙ ap G.st (sym r)
        sts n (inr q) (inr r) = ap (λ (x : Node). seen (state_of x)) (join_other n q r) ∙ sym (st_other (view ns) w.idx l.idx c (seen st) n q r)

        sum : ℕ
        sum = size_of (at ns w.idx) + size_of (at ns l.idx)

        szs : (n : ℕ) → (n ≡ w.idx) ⊎ (n ≢ w.idx) → (n ≡ l.idx) ⊎ (n ≢ l.idx) → (view (join ns w l st)).sz n ≡ G.sz n
        szs n (inl q) d = ap size_of (ap (at (join ns w l st)) q ∙ join_w) ∙ sym (sel_yes (ℕ_discrete n w.idx) sum (sel (ℕ_discrete n l.idx) 0 (size_of (at ns n))) q)
        szs n (inr q) (inl r) = ap size_of (ap (at (join ns w l st)) r ∙ join_l)
            ∙ sym (sel_yes (ℕ_discrete n l.idx) 0 (size_of (at ns n)) r) ∙ sym (sel_no (ℕ_discrete n w.idx) sum (sel (ℕ_discrete n l.idx) 0 (size_of (at ns n))) q)
        szs n (inr q) (inr r) = ap size_of (join_other n q r)
            ∙ sym (sel_no (ℕ_discrete n l.idx) 0 (size_of (at ns n)) r) ∙ sym (sel_no (ℕ_discrete n w.idx) sum (sel (ℕ_discrete n l.idx) 0 (size_of (at ns n))) q)
