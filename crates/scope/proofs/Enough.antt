-- A depth is enough at pairs where some chain of roots contains each of them and the depth is at least the number of nodes outside it. At the node count it always
-- is; finds keep it, one level down it holds of the children, and it stays while pairs are unified. Where it holds, the depth changes no answer and no node.
-- Assumes nothing.
use mathlib.Core.Path.{◌≡◌, refl, sym, ap, subst, ◌∙◌}
use mathlib.Core.List.{List, [], ◌∷◌, ◌++◌, Memᴰ}
use mathlib.Core.Bool.{true, false}
use Prim.Native.Nat.{ℕ, ◌-◌, ◌≤◌, ◌<◌}
use native.Mathlib.Omega.{arith}
use lib.ListN.{length}
use Rattle.scope.specs.Chart.{Env}
use Rattle.scope.specs.Types.{Ty, ty}
use Rattle.scope.specs.Nodes.{State, Known, Unknown, InferenceFailed, Node, Root, Child, at, is_root, kids_of, find}
use Rattle.scope.specs.Answers.{Answer, both}
use Rattle.scope.specs.Unify.{Out, run, state_in, meet, unify_f}
use Rattle.scope.proofs.View.{View, seen, view}
use Rattle.scope.proofs.Free.{free, free_nil, free_most}
use Rattle.scope.proofs.Chain.{Chain, cnil, chain_step, fuel_step}
use Rattle.scope.proofs.Paths.{Forest, Tidied, find_idx, rep_idem, root_rep, tidied_view}
use Rattle.scope.proofs.Grow.{ri}
use Rattle.scope.proofs.Fuel.{Chains}
use Rattle.scope.proofs.Sim.{Inside}
use Rattle.scope.proofs.SoundLaws.{SoundNodes}
use Rattle.scope.proofs.Depth.{Whole, sound_whole, whole_after, chain_on, meet_depth, unify_depth}

pub record Enough (n : ℕ) (ns : List Node) (depth : ℕ) (ps : List (Ty × Ty)) : Type 0 where
  pub above : List ℕ
  pub chains : Chains (view ns) above ps
  pub room : free n above ≤ depth

pub enough_start : (n : ℕ) (ns : List Node) (ps : List (Ty × Ty)) → Enough n ns n ps
enough_start n ns ps = record { above = []; chains = λ p m. cnil; room = free_nil n }

pub enough_part : {n d : ℕ} {ns : List Node} {ps qs : List (Ty × Ty)} → ((p : Ty × Ty) → Memᴰ p qs → Memᴰ p ps) → Enough n ns d ps → Enough n ns d qs
enough_part f w = record { above = w.above; chains = λ p m. w.chains p (f p m); room = w.room }

-- finds change no root
pub enough_tidied : {n d : ℕ} {ns ns' : List Node} {ps : List (Ty × Ty)} → Forest ns → Tidied ns ns' → Enough n ns d ps → Enough n ns' d ps
enough_tidied {ps = ps} ok t w =
    record { above = w.above; chains = subst (λ (g : View). Chains g w.above ps) (sym (tidied_view t ok)) w.chains; room = w.room }

-- the root of a pair's first type in its place
pub enough_root : {n d : ℕ} {ns : List Node} → Forest ns → (p q b : Ty) → Enough n ns d ((p, q) ∷ []) → Enough n ns d ((find ns p, b) ∷ [])
enough_root {ns = ns} ok p q b w = record { above = w.above; chains = λ r m. go r m; room = w.room }
  where
    same : ri (view ns) (find ns p) ≡ ri (view ns) p
    same = ap (λ (i : ℕ). ((view ns).rep i).idx) (find_idx ns p) ∙ ap (λ (t : Ty). t.idx) (rep_idem ok p.idx)

    go : (r : Ty × Ty) → Memᴰ r ((find ns p, b) ∷ []) → Chain (view ns) (ri (view ns) r.0) w.above
    go r (Memᴰ.head e) =
        subst (λ (v : Ty × Ty). Chain (view ns) (ri (view ns) v.0) w.above) (sym e)
        (subst (λ (i : ℕ). Chain (view ns) i w.above) (sym same) (w.chains (p, q) (Memᴰ.head refl)))
    go r (Memᴰ.tail m) = elim m [ ]

root_top : {ns : List Node} → Forest ns → (i : ℕ) → is_root (at ns i) ≡ true → (view ns).rep i ≡ ty false i
root_top {ns} ok i e = go (at ns i) refl e
  where
    go : (v : Node) → at ns i ≡ v → is_root v ≡ true → (view ns).rep i ≡ ty false i
    go (Root st z) q r = root_rep ok q
    go (Child u) q r = cc

module _ (e : Env) {ns : List Node} (ok : SoundNodes e ns) where
  -- two roots
  module _ (a b : Ty) (h : a.idx < length ns) (top : is_root (at ns a.idx) ≡ true) {d : ℕ} (w : Enough (length ns) ns d ((a, b) ∷ [])) (deep : d ≡ 0 → ⊥) where
    rep_top : (view ns).rep a.idx ≡ ty false a.idx
    rep_top = root_top ok.forest a.idx top

    chain : Chain (view ns) a.idx w.above
    chain = subst (λ (t : Ty). Chain (view ns) t.idx w.above) rep_top (w.chains (a, b) (Memᴰ.head refl))

    -- the depth changes nothing
    pub enough_meet : meet (unify_f e.texts (length ns) (d - 1)) e.texts (length ns) ns a b
        ≡ meet (unify_f e.texts (length ns) (length ns)) e.texts (length ns) ns a b
    enough_meet =
        meet_depth e (length ns) (d - 1) (length ns) (unify_depth e (length ns) (d - 1) (length ns)) ns a b w.above (sound_whole e ok) h rep_top chain
        (omega (arith, w.room, deep)) (omega (arith, free_most (length ns) w.above))

    -- one level down: pairs whose first types are children of the first root
    pub enough_kids : (ps : List (Ty × Ty)) → ((p : Ty × Ty) → Memᴰ p ps → Memᴰ p.0 (kids_of (state_in ns a))) → Enough (length ns) ns (d - 1) ps
    enough_kids ps f = record {
      above = a.idx ∷ w.above;
      chains = λ p m. go p (state_in ns a) refl (f p m);
      room = fuel_step ok.good chain h (omega (arith, w.room, deep));
    }
      where
        go : (p : Ty × Ty) (s : State) → state_in ns a ≡ s → Memᴰ p.0 (kids_of s) → Chain (view ns) (ri (view ns) p.0) (a.idx ∷ w.above)
        go p (Known i k) q m = chain_step (record { inv = i; kind = k; kid = p.0; top = rep_top; state = unfold view in ap seen q; mem = m; to = refl }) chain
        go p (Unknown s) q m = elim m [ ]
        go p InferenceFailed q m = elim m [ ]

-- while pairs are unified
module _ (e : Env) (n : ℕ) where
  step : (ns : List Node) (d : ℕ) (ls : List ℕ) (p : Ty × Ty) (ps : List (Ty × Ty)) → Whole e n ns → Inside n (p ∷ ps) → Chains (view ns) ls (p ∷ ps)
      → Chains (view (unify_f e.texts n d ns p.0 p.1).nodes) ls ps
  step ns d ls p ps ok i c q m =
      let h = i p (Memᴰ.head refl) in
      chain_on e n ns p.0 p.1 ok h.0 h.1 d q.0 (c p (Memᴰ.head refl)) (c q (Memᴰ.tail m))

  steps : (ns : List Node) (d : ℕ) (ls : List ℕ) (r : Answer) (ps qs : List (Ty × Ty)) → Whole e n ns → Inside n (ps ++ qs) → Chains (view ns) ls (ps ++ qs)
      → Chains (view (run (unify_f e.texts n d) ns r ps).nodes) ls qs
  unfolding run
  steps ns d ls r [] qs ok i c = c
  steps ns d ls r (p ∷ ps) qs ok i c =
      let h = i p (Memᴰ.head refl) in
      let o : Out = unify_f e.texts n d ns p.0 p.1 in
      steps o.nodes d ls (both r o.answer) ps qs (whole_after e n ns p.0 p.1 ok h.0 h.1 d) (λ q m. i q (Memᴰ.tail m)) (step ns d ls p (ps ++ qs) ok i c)

pub enough_run : (e : Env) {ns : List Node} → SoundNodes e ns → (d : ℕ) (r : Answer) (ps qs : List (Ty × Ty)) → Inside (length ns) (ps ++ qs)
    → Enough (length ns) ns d (ps ++ qs) → Enough (length ns) (run (unify_f e.texts (length ns) d) ns r ps).nodes d qs
enough_run e {ns} ok d r ps qs i w = record { above = w.above; chains = steps e (length ns) ns d w.above r ps qs (sound_whole e ok) i w.chains; room = w.room }
