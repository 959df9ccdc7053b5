-- Trees that fit a store's nodes: those that fit their view, so `find_mut` and failed marks change none; and one node more asks for one state more.
-- Assumes nothing.
use mathlib.Core.Path.{◌≡◌, refl, sym, ap, subst, ◌∙◌}
use mathlib.Core.List.{List, [], ◌∷◌}
use mathlib.Core.Logic.{◌≢◌, ◌⊎◌, inl, inr, ◌↔◌}
use Prim.Native.Nat.{ℕ, suc, ◌≤◌}
use native.Mathlib.Omega.{arith}
use lib.ListN.{length, get_or-eq_default}
use Rattle.scope.specs.Chart.{Env}
use Rattle.scope.specs.Types.{Ty}
use Rattle.scope.specs.Nodes.{State, Known, Unknown, InferenceFailed, Node, Root, Child, at, state_of}
use Rattle.scope.specs.Make.{push}
use Rattle.scope.specs.Trees.{Tree, Val, invert_if, val, StateFits, NodeFits, Fits}
use Rattle.scope.specs.Demand.{StatesFit}
use Rattle.scope.proofs.View.{seen, view}
use Rattle.scope.proofs.TreeLaws.{invert_if_xor}
use Rattle.scope.proofs.ViewLaws.{same?}
use Rattle.scope.proofs.Paths.{beyond, Leads, top, up, Forest, lead_all, rep_leads}
use Rattle.scope.proofs.Push.{push_len, push_new, push_old}
use Rattle.scope.proofs.ViewFits.{Den}
use Rattle.scope.proofs.ViewFits as Seen
use Rattle.scope.proofs.Steps.{pushes}

module _ (e : Env) (v : Val) where
  state_den : (st : State) (t : Tree) → StateFits e v st t → Den e v (seen st) t
  state_den (Known i k) t f = f
  state_den (Unknown p) t f = tt
  state_den InferenceFailed t f = tt

  den_state : (st : State) (t : Tree) → Den e v (seen st) t → StateFits e v st t
  den_state (Known i k) t f = f
  den_state (Unknown p) t f = tt
  den_state InferenceFailed t f = tt

  -- a node's tree is its root's
  leads_val : {ns : List Node} {n d : ℕ} {r : Ty} → Fits e v ns → Leads ns n d r → v n ≡ val e v r
  leads_val f (top st z q) = refl
  leads_val f (up {n = n} {r = r} t q p) =
      subst (NodeFits e v n) q (f n) ∙ ap (invert_if e t.inv) (leads_val f p) ∙ sym (invert_if_xor e t.inv r.inv (v r.idx))

  module _ {ns : List Node} (ok : Forest ns) where
    pub fits_seen : Fits e v ns → Seen.Fits e v (view ns)
    unfolding view
    fits_seen f = record {
      tree = λ n. let l = lead_all ok n in leads_val f l.path ∙ ap (val e v) (sym (rep_leads l.path));
      state = λ n. state n (at ns n) (f n);
    }
      where
        state : (n : ℕ) (x : Node) → NodeFits e v n x → Den e v (seen (state_of x)) (v n)
        state n (Root st z) f = state_den st (v n) f
        state n (Child t) f = tt

    pub seen_fits : Seen.Fits e v (view ns) → Fits e v ns
    unfolding view
    seen_fits f n = go (at ns n) refl
      where
        go : (x : Node) → at ns n ≡ x → NodeFits e v n x
        go (Root st z) q = den_state st (v n) (subst (λ (x : Node). Den e v (seen (state_of x)) (v n)) q (f.state n))
        go (Child t) q =
            let l = lead_all ok t.idx in
            f.tree n ∙ ap (val e v) (rep_leads (up t q l.path))
            ∙ invert_if_xor e t.inv l.to.inv (v l.to.idx)
            ∙ ap (λ (r : Ty). invert_if e t.inv (val e v r)) (sym (rep_leads l.path)) ∙ ap (invert_if e t.inv) (sym (f.tree t.idx))

  -- the same view, the same trees
  pub fits_same : {ns ns' : List Node} → Forest ns → Forest ns' → view ns' ≡ view ns → Fits e v ns' ↔ Fits e v ns
  fits_same ok ok' q = (
    (λ f. seen_fits ok (subst (Seen.Fits e v) q (fits_seen ok' f))),
    (λ f. seen_fits ok' (subst (Seen.Fits e v) (sym q) (fits_seen ok f))),
  )

  -- past the end everything fits
  pub end_fits : (ns : List Node) (n : ℕ) → length ns ≤ n → NodeFits e v n (at ns n)
  end_fits ns n h = subst (NodeFits e v n) (sym (get_or-eq_default ns beyond h)) tt

  -- one root more
  push_fits : (ns : List Node) (st : State) → Fits e v (push ns st) ↔ (Fits e v ns × StateFits e v st (v (length ns)))
  push_fits ns st = (
    (λ f. ((λ n. old f n (same? n (length ns))), subst (NodeFits e v (length ns)) (push_new ns st) (f (length ns)))),
    (λ f n. new f n (same? n (length ns))),
  )
    where
      old : Fits e v (push ns st) → (n : ℕ) → (n ≡ length ns) ⊎ (n ≢ length ns) → NodeFits e v n (at ns n)
      old f n (inl q) = end_fits ns n (omega arith)
      old f n (inr q) = subst (NodeFits e v n) (push_old ns st n q) (f n)

      new : (Fits e v ns × StateFits e v st (v (length ns))) → (n : ℕ) → (n ≡ length ns) ⊎ (n ≢ length ns) → NodeFits e v n (at (push ns st) n)
      new f n (inl q) = subst (λ (m : ℕ). NodeFits e v m (at (push ns st) m)) (sym q) (subst (NodeFits e v (length ns)) (sym (push_new ns st)) f.1)
      new f n (inr q) = subst (NodeFits e v n) (sym (push_old ns st n q)) (f.0 n)

  pub pushes_fit : (ns : List Node) (sts : List State) → Fits e v (pushes ns sts) ↔ (Fits e v ns × StatesFit e v (length ns) sts)
  unfolding pushes StatesFit
  pushes_fit ns [] = ((λ f. (f, tt)), (λ f. f.0))
  pushes_fit ns (st ∷ sts) =
      let a = push_fits ns st in
      let b = pushes_fit (push ns st) sts in
      let q : length (push ns st) ≡ suc (length ns) = push_len ns st in (
        (λ f. let x = b.0 f in let y = a.0 x.0 in (y.0, (y.1, subst (λ (n : ℕ). StatesFit e v n sts) q x.1))),
        (λ f. b.1 (a.1 (f.0, f.1.0), subst (λ (n : ℕ). StatesFit e v n sts) (sym q) f.1.1)),
      )
