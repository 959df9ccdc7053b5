-- Two roots with kinds, once their children are unified: settling the answer leaves roots that are their own inverses so. After a Success the two roots may be joined
-- either way round, and a join keeps what is known.
-- Assumes nothing.
use mathlib.Core.Path.{◌≡◌, refl, ap, ap₂, sym, subst, ◌∙◌}
use mathlib.Core.Bool.{Bool, true, false}
use mathlib.Core.List.{List}
use mathlib.Core.Option.{some}
use Prim.Native.Nat.{ℕ, suc, ◌-◌, ◌<◌}
use native.Mathlib.Omega.{arith}
use native.Mathlib.Decide.{ℕ_discrete, dec_lt}
use lib.ListN.{length}
use borrow.Author.Tests.{ne_eqb}
use Rattle.scope.specs.Base.{xor}
use Rattle.scope.specs.Names.{Texts}
use Rattle.scope.specs.Chart.{Env}
use Rattle.scope.specs.Types.{Ty, ty, flip}
use Rattle.scope.specs.Nodes.{Kind, State, Known, Unknown, InferenceFailed, Node, at, is_root, kind_of}
use Rattle.scope.specs.Answers.{Answer, Success, Failure, Indeterminate}
use Rattle.scope.specs.Unify.{Plan, plan, Out, run, settle, state_in, meet, unify_f}
use Rattle.scope.proofs.View as Seen
use Rattle.scope.proofs.View.{View, known, seen, sel, root_of, view}
use Rattle.scope.proofs.ViewLaws.{xor_false, sel_no, Kinds}
use Rattle.scope.proofs.PlanLaws.{Makeable}
use Rattle.scope.proofs.Grow.{Grow, grow_refl}
use Rattle.scope.proofs.Stay.{RunSpec, run_spec}
use Rattle.scope.proofs.Meet.{PlanSpec, plan_spec, Mergeable, join_spec, a_stays, b_stays, deep_ok, unify_spec}
use Rattle.scope.proofs.Sim.{Sim, Inside, run_sim}
use Rattle.scope.proofs.SoundLaws.{SoundNodes}
use Rattle.scope.proofs.UnifyKept.{Stable, stable_kinds, keeps, nodes_stable}
use Rattle.heed.proofs.Laws.{SelfsKept, selfs_grow}
use Rattle.meeting.specs.Meets.{BothKnown}
use Rattle.unify_enter.proofs.walks.Kept.{deep_sim}
use Rattle.unify_enter.proofs.walks.Laws.{root_find, unify_roots}

module _ (e : Env) {ns : List Node} (ok : SoundNodes e ns) (f : ℕ) (a b : Ty) (ha : a.idx < length ns) (hb : b.idx < length ns)
    (ra : is_root (at ns a.idx) ≡ true) (rb : is_root (at ns b.idx) ≡ true) where
  abbrev X : Texts
  X = e.texts

  abbrev n : ℕ
  n = length ns

  abbrev g : View
  g = view ns

  abbrev U : View → Ty → Ty → Seen.Out
  U = Seen.unify e.texts (length ns) f

  abbrev did : Plan → Out
  did l = run (unify_f e.texts (length ns) f) ns l.base l.pairs

  root_top : (t : Ty) → is_root (at ns t.idx) ≡ true → (view ns).rep t.idx ≡ ty false t.idx
  unfolding view
  root_top t h = root_find ns (ty false t.idx) (at ns t.idx) refl h

  root_own : (t : Ty) → is_root (at ns t.idx) ≡ true → root_of (view ns) t ≡ t
  root_own t h = ap (flip t.inv) (root_top t h) ∙ ap (λ (v : Bool). ty v t.idx) (xor_false t.inv)

  state_seen : (t : Ty) (i : Bool) (k : Kind) → state_in ns t ≡ Known i k → (view ns).st t.idx ≡ known i k
  unfolding view
  state_seen t i k s = ap seen s

  kinds : Kinds (Makeable e) (view ns)
  kinds = stable_kinds (nodes_stable e ok)

  module _ (apart : a.idx ≡ b.idx → ⊥) (i j : Bool) (k m : Kind) (sa : state_in ns a ≡ Known i k) (sb : state_in ns b ≡ Known j m) where
    abbrev l : Plan
    l = plan e.texts k m (xor (xor i a.inv) (xor j b.inv))

    abbrev O : Seen.Out
    O = Seen.run U g l.base l.pairs

    va : (view ns).st a.idx ≡ known i k
    va = state_seen a i k sa

    vb : (view ns).st b.idx ≡ known j m
    vb = state_seen b j m sb

    spec : PlanSpec e.texts k m l
    spec = plan_spec e k m (xor (xor i a.inv) (xor j b.inv)) (kinds a.idx i k va) (kinds b.idx j m vb)

    went : RunSpec e.texts (view ns) l.base l.pairs O
    went = run_spec e U (unify_spec e n f) g l.base l.pairs ok.good kinds

    close_grow : (r : Answer) → O.answer ≡ r → Grow e.texts O.view (Seen.close O.view a b r).view
    close_grow Failure q = grow_refl went.grow.good
    close_grow Indeterminate q = grow_refl went.grow.good
    close_grow Success q = go (dec_lt (h.sz b.idx) (h.sz a.idx))
      where
        h : View
        h = O.view

        may : Mergeable e.texts O.view a.idx b.idx
        may =
            deep_ok e U (unify_spec e n f) n g a b ok.good kinds (root_top a ra) (root_top b rb) apart i j k m va vb l spec O went
            (a_stays e U (unify_spec e n f) n g a b ok.good kinds (root_top a ra) (root_top b rb) apart i j k m va vb l spec)
            (b_stays e U (unify_spec e n f) n g a b ok.good kinds (root_top a ra) (root_top b rb) apart i j k m va vb l spec) q

        go : (d : Dec (h.sz b.idx < h.sz a.idx))
            → Grow X h (sel d (Seen.out (Seen.join h a b (h.st a.idx)) Success) (Seen.out (Seen.join h b a (h.st b.idx)) Success)).view
        go (yes d) = (join_spec X h a b (h.st a.idx) went.grow.good may.jab may.hab).grow
        go (no d) = (join_spec X h b a (h.st b.idx) went.grow.good may.jba may.hba).grow

    -- one level more is the children, and then the answer settled

    seen_close : Seen.unify e.texts (length ns) (suc f) (view ns) a b ≡ Seen.close O.view a b O.answer
    unfolding Seen.unify Seen.meet
    seen_close =
        ap₂ (λ (s t : Ty). Seen.meet U X n g s t) (root_own a ra) (root_own b rb)
        ∙ (sel_no (ℕ_discrete a.idx b.idx) _ (Seen.meet_st U X n g a b (g.st a.idx) (g.st b.idx)) apart
        ∙ ap₂ (λ (s t : Seen.VState). Seen.meet_st U X n g a b s t) va vb)

    meet_close : meet (unify_f e.texts (length ns) f) e.texts (length ns) ns a b ≡ settle (did l).nodes a b (did l).answer
    unfolding meet
    meet_close = rw (ne_eqb a.idx b.idx apart, sa, sb) refl

    whole : unify_f e.texts (length ns) (suc f) ns a b ≡ settle (did l).nodes a b (did l).answer
    whole =
        let z : suc f - 1 ≡ f = omega arith in
        unify_roots X n (suc f) ns a b (λ q. omega arith) ra rb ∙ (ap (λ (d : ℕ). meet (unify_f X n d) X n ns a b) z ∙ meet_close)

    known_closes : Inside (length ns) l.pairs → SelfsKept (did l).nodes (settle (did l).nodes a b (did l).answer).nodes
    known_closes h = selfs_grow (did l).nodes (settle (did l).nodes a b (did l).answer).nodes (subst Seen.Good (sym sim.views) went.grow.good)
        (subst (λ (v : View). Grow X v (view (settle (did l).nodes a b (did l).answer).nodes)) (sym sim.views)
        (subst (Grow X O.view) (sym after) (close_grow O.answer refl)))
      where
        st : Stable e (length ns) (view ns)
        st = nodes_stable e ok

        sim : Sim ns (did l) O
        sim = run_sim n (Stable e n) (unify_f X n f) U ((keeps e n).step f) (deep_sim e ok f) ns l.base l.pairs ok.forest refl st h

        after : view (settle (did l).nodes a b (did l).answer).nodes ≡ (Seen.close O.view a b O.answer).view
        after =
            ap (λ (q : Out). view q.nodes) (sym whole)
            ∙ ((deep_sim e ok (suc f) ns a b ok.forest refl st ha hb).views ∙ ap (λ (q : Seen.Out). q.view) seen_close)

  pub closes : (l : Plan) → BothKnown e.texts ns a b l → Inside (length ns) l.pairs
      → SelfsKept (did l).nodes (settle (did l).nodes a b (did l).answer).nodes
  closes l w h = go (state_in ns a) refl (state_in ns b) refl w.first w.second
    where
      Goal : Plan → Type 0
      Goal o = Inside (length ns) o.pairs → SelfsKept (did o).nodes (settle (did o).nodes a b (did o).answer).nodes

      go : (s : State) → state_in ns a ≡ s → (t : State) → state_in ns b ≡ t → kind_of a s ≡ some w.seen → kind_of b t ≡ some w.other
          → SelfsKept (did l).nodes (settle (did l).nodes a b (did l).answer).nodes
      go (Known i k) sa (Known j m) sb p q =
          let y : (xor i a.inv, k) ≡ w.seen = cc in
          let z : (xor j b.inv, m) ≡ w.other = cc in
          let x : l ≡ plan X k m (xor (xor i a.inv) (xor j b.inv)) =
          w.plan ∙ ap₂ (λ (u v : Bool × Kind). plan X u.1 v.1 (xor u.0 v.0)) (sym y) (sym z) in
          subst Goal (sym x) (known_closes w.apart i j k m sa sb) h
      go (Known i k) sa (Unknown v) sb p q = let z : ◌≡◌ {A = ℕ} 0 1 = cc in absurd (omega arith)
      go (Known i k) sa InferenceFailed sb p q = let z : ◌≡◌ {A = ℕ} 0 1 = cc in absurd (omega arith)
      go (Unknown v) sa t sb p q = let z : ◌≡◌ {A = ℕ} 0 1 = cc in absurd (omega arith)
      go InferenceFailed sa t sb p q = let z : ◌≡◌ {A = ℕ} 0 1 = cc in absurd (omega arith)
