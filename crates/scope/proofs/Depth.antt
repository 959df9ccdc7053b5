-- The depth that `unify` starts with is enough: on a sound store any two depths from the node count on give the same nodes and the same answer.
-- Assumes nothing.
use mathlib.Core.Path.{◌≡◌, refl, sym, ap, subst, ◌∙◌}
use mathlib.Core.List.Memᴰ
use mathlib.Core.List.{List, [], ◌∷◌}
use mathlib.Core.Bool.{Bool, false}
use Prim.Native.Nat.{ℕ, zero, suc, ◌≤◌, ◌<◌}
use native.Mathlib.Omega.{arith}
use lib.Dec.{eqb}
use lib.ListN.{length}
use Rattle.scope.specs.Base.{pick, xor}
use Rattle.scope.specs.Chart.{Env}
use Rattle.scope.specs.Types.{Ty, ty}
use Rattle.scope.specs.Nodes.{State, Known, Unknown, InferenceFailed, Node, find, find_mut, kind_of}
use Rattle.scope.specs.Answers.{Answer, both}
use Rattle.scope.specs.Unify.{Plan, plan, Out, out, run, state_in, settle, meet_kinds, same_node, meet, unify_f, unify}
use Rattle.scope.proofs.View.{View, seen, view}
use Rattle.scope.proofs.View as Seen
use Rattle.scope.proofs.Free.{free, free_nil}
use Rattle.scope.proofs.Chain.{Chain, cnil, fuel_out, fuel_step}
use Rattle.scope.proofs.Paths.{Forest, Tidied, find_idx, find_inside, rep_idem, find_mut_tidied, tidied_forest, tidied_view}
use Rattle.scope.proofs.Grow.{ri}
use Rattle.scope.proofs.Meet.{unify_spec}
use Rattle.scope.proofs.Fuel.{Chains, chain_after, plan_chains}
use Rattle.scope.proofs.Inside.{plan_within}
use Rattle.scope.proofs.Sim.{Sim, Inside, unify_sim}
use Rattle.scope.proofs.SoundLaws.{SoundNodes}
use Rattle.scope.proofs.UnifyKept.{Stable, stable_kinds, keeps, nodes_stable}

module _ (e : Env) (n : ℕ) where
  -- n nodes that `unify` may be called on
  pub record Whole (ns : List Node) : Type 0 where
    pub forest : Forest ns
    pub len : length ns ≡ n
    pub stable : Stable e n (view ns)

  module _ (ns : List Node) (p q : Ty) (ok : Whole ns) (hp : p.idx < n) (hq : q.idx < n) (f : ℕ) where
    seen_call : Sim ns (unify_f e.texts n f ns p q) (Seen.unify e.texts n f (view ns) p q)
    seen_call = unify_sim e.texts n (Stable e n) (keeps e n) f ns p q ok.forest ok.len ok.stable hp hq

    pub whole_after : Whole (unify_f e.texts n f ns p q).nodes
    whole_after = record {
      forest = seen_call.forest;
      len = seen_call.len ∙ ok.len;
      stable = subst (Stable e n) (sym seen_call.views) ((keeps e n).step f (view ns) p q ok.stable hp hq);
    }

    -- the chain above another type stays
    pub chain_on : {ls : List ℕ} (x : Ty) → Chain (view ns) (ri (view ns) p) ls → Chain (view ns) (ri (view ns) x) ls
        → let g : View = view (unify_f e.texts n f ns p q).nodes in Chain g (ri g x) ls
    chain_on {ls} x c d = subst (λ (g : View). Chain g (ri g x) ls) (sym seen_call.views)
        (chain_after (unify_spec e n f (view ns) p q ok.stable.good (stable_kinds ok.stable)) x c d)

  pub whole_tidied : {ns ns' : List Node} → Tidied ns ns' → Whole ns → Whole ns'
  whole_tidied t ok = record {
    forest = tidied_forest t ok.forest;
    len = t.len ∙ ok.len;
    stable = subst (Stable e n) (sym (tidied_view t ok.forest)) ok.stable;
  }

  abbrev SameDepths : ℕ → ℕ → Type 0
  SameDepths f f' = (ns : List Node) (p q : Ty) (ls : List ℕ) → Whole ns → p.idx < n → q.idx < n → Chain (view ns) (ri (view ns) p) ls
      → free n ls ≤ f → free n ls ≤ f' → unify_f e.texts n f ns p q ≡ unify_f e.texts n f' ns p q

  module _ (f f' : ℕ) (ih : SameDepths f f') where
    run_depth : (ns : List Node) (r : Answer) (ps : List (Ty × Ty)) (ls : List ℕ) → Whole ns → Inside n ps → Chains (view ns) ls ps → free n ls ≤ f
        → free n ls ≤ f' → run (unify_f e.texts n f) ns r ps ≡ run (unify_f e.texts n f') ns r ps
    unfolding run
    run_depth ns r [] ls ok i c h h' = refl
    run_depth ns r (p ∷ ps) ls ok i c h h' =
        let o : Out = unify_f e.texts n f ns p.0 p.1 in
        let i₀ = i p (Memᴰ.head refl) in
        let c₀ = c p (Memᴰ.head refl) in
        run_depth o.nodes (both r o.answer) ps ls (whole_after ns p.0 p.1 ok i₀.0 i₀.1 f) (λ q m. i q (Memᴰ.tail m))
        (λ q m. chain_on ns p.0 p.1 ok i₀.0 i₀.1 f q.0 c₀ (c q (Memᴰ.tail m))) h h'
        ∙ ap (λ (o : Out). run (unify_f e.texts n f') o.nodes (both r o.answer) ps) (ih ns p.0 p.1 ls ok i₀.0 i₀.1 c₀ h h')

    pub meet_depth : (ns : List Node) (a b : Ty) (ls : List ℕ) → Whole ns → a.idx < n → (view ns).rep a.idx ≡ ty false a.idx → Chain (view ns) a.idx ls
        → free n ls ≤ suc f → free n ls ≤ suc f' → meet (unify_f e.texts n f) e.texts n ns a b ≡ meet (unify_f e.texts n f') e.texts n ns a b
    unfolding meet view
    meet_depth ns a b ls ok ha top ch h h' =
        ap (pick (eqb a.idx b.idx) (out ns (same_node n ns a b))) (go (state_in ns a) (state_in ns b) refl refl)
      where
        go : (sa sb : State) → state_in ns a ≡ sa → state_in ns b ≡ sb
            → meet_kinds (unify_f e.texts n f) e.texts n ns a b (kind_of a sa) (kind_of b sb)
            ≡ meet_kinds (unify_f e.texts n f') e.texts n ns a b (kind_of a sa) (kind_of b sb)
        go (Unknown s) sb p q = refl
        go InferenceFailed sb p q = refl
        go (Known i k) (Unknown s) p q = refl
        go (Known i k) InferenceFailed p q = refl
        go (Known i k) (Known j m) p q =
            let c : Bool = xor (xor i a.inv) (xor j b.inv) in
            let l : Plan = plan e.texts k m c in
            let fk = ok.stable.inside.kinds a.idx i k (ap seen p) in
            let fm = ok.stable.inside.kinds b.idx j m (ap seen q) in
            ap (λ (o : Out). settle o.nodes a b o.answer) (run_depth ns l.base l.pairs (a.idx ∷ ls) ok (plan_within e.texts c fk fm)
            (plan_chains e.texts (view ns) a.idx ls top ch i k m c (ap seen p))
            (fuel_step ok.stable.good ch ha h) (fuel_step ok.stable.good ch ha h'))

  pub unify_depth : (f f' : ℕ) → SameDepths f f'
  unfolding unify_f
  unify_depth zero f' ns p q ls ok hp hq c h h' = absurd (fuel_out ok.stable.good c (ok.stable.inside.inside p.idx hp) h)
  unify_depth (suc f) zero ns p q ls ok hp hq c h h' = absurd (fuel_out ok.stable.good c (ok.stable.inside.inside p.idx hp) h')
  unify_depth (suc f) (suc f') ns p q ls ok hp hq c h h' =
      meet_depth f f' (unify_depth f f') ns₂ (find ns p) (find (find_mut ns p) q) ls ok₂
      (omega (arith, ok.len, find_inside ok.forest p (omega (arith, ok.len)))) top
      (subst (λ (x : ℕ). Chain (view ns₂) x ls) (sym (find_idx ns p)) (subst (λ (g : View). Chain g (ri (view ns) p) ls) (sym same) c)) h h'
    where
      ns₂ : List Node
      ns₂ = find_mut (find_mut ns p) q

      t₁ : Tidied ns (find_mut ns p)
      t₁ = find_mut_tidied ok.forest p

      ok₁ : Whole (find_mut ns p)
      ok₁ = whole_tidied t₁ ok

      t₂ : Tidied (find_mut ns p) ns₂
      t₂ = find_mut_tidied ok₁.forest q

      ok₂ : Whole ns₂
      ok₂ = whole_tidied t₂ ok₁

      same : view ns₂ ≡ view ns
      same = tidied_view t₂ ok₁.forest ∙ tidied_view t₁ ok.forest

      top : (view ns₂).rep (find ns p).idx ≡ ty false (find ns p).idx
      top = rw (same, find_idx ns p) (rep_idem ok.forest p.idx)

module _ (e : Env) {ns : List Node} (ok : SoundNodes e ns) where
  pub sound_whole : Whole e (length ns) ns
  sound_whole = record { forest = ok.forest; len = refl; stable = nodes_stable e ok }

-- a run of pairs takes its depth from the nodes, whose number stays
whole_carry : (e : Env) (n : ℕ) (ns : List Node) → Whole e n ns → (r : Answer) (ps : List (Ty × Ty)) → Inside n ps
    → run (unify e.texts) ns r ps ≡ run (unify_f e.texts n n) ns r ps
unfolding run unify
whole_carry e n ns ok r [] h = refl
whole_carry e n ns ok r (p ∷ ps) h =
    let i = h p (Memᴰ.head refl) in
    let o : Out = unify_f e.texts n n ns p.0 p.1 in
    ap (λ (m : ℕ). let v : Out = unify_f e.texts m m ns p.0 p.1 in run (unify e.texts) v.nodes (both r v.answer) ps) ok.len
    ∙ whole_carry e n o.nodes (whole_after e n ns p.0 p.1 ok i.0 i.1 n) (both r o.answer) ps (λ q m. h q (Memᴰ.tail m))

pub carry_depth : (e : Env) {ns : List Node} → SoundNodes e ns → (n : ℕ) → length ns ≡ n → (r : Answer) (ps : List (Ty × Ty)) → Inside n ps
    → run (unify e.texts) ns r ps ≡ run (unify_f e.texts n n) ns r ps
carry_depth e {ns} ok n le =
    whole_carry e n ns (record { forest = ok.forest; len = le; stable = subst (λ (m : ℕ). Stable e m (view ns)) le (nodes_stable e ok) })

-- any depth from the node count on
pub depth_enough : (e : Env) {ns : List Node} → SoundNodes e ns → (p q : Ty) → p.idx < length ns → q.idx < length ns → (f : ℕ) → length ns ≤ f
    → unify_f e.texts (length ns) f ns p q ≡ unify e.texts ns p q
unfolding unify
depth_enough e {ns} ok p q hp hq f h =
    unify_depth e (length ns) f (length ns) ns p q [] (sound_whole e ok) hp hq cnil
    (omega (arith, free_nil (length ns))) (free_nil (length ns))

-- the rule without its depth: `unify` is `meet` of the two roots, with itself for the pairs one level down
pub unify_rule : (e : Env) {ns : List Node} → SoundNodes e ns → (p q : Ty) → p.idx < length ns → q.idx < length ns
    → unify e.texts ns p q
    ≡ meet (unify_f e.texts (length ns) (length ns)) e.texts (length ns) (find_mut (find_mut ns p) q) (find ns p) (find (find_mut ns p) q)
unfolding unify_f
unify_rule e {ns} ok p q hp hq = sym (depth_enough e ok p q hp hq (suc (length ns)) (omega arith))
