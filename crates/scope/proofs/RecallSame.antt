-- Whatever true notes a memory holds, unifying with it gives `unify`'s nodes and answer, and leaves a memory of true notes. Assumes nothing.
use mathlib.Core.Path.{◌≡◌, refl, sym, ap, subst, ◌∙◌}
use mathlib.Core.List.Memᴰ
use mathlib.Core.List.{List, [], ◌∷◌}
use mathlib.Core.Bool.{Bool, true, false, ◌||◌}
use mathlib.Core.Option.{Option, none, some}
use Prim.Native.Nat.{ℕ, zero, suc, ◌≤◌, ◌<◌}
use native.Mathlib.Omega.{arith}
use lib.Dec.{eqb}
use lib.ListN.{length}
use Rattle.scope.specs.Base.{pick, xor}
use Rattle.scope.specs.Chart.{Env}
use Rattle.scope.specs.Types.{Ty, ty}
use Rattle.scope.specs.Nodes.{Kind, State, Known, Unknown, InferenceFailed, Node, find, find_mut, kind_of}
use Rattle.scope.specs.Answers.{Answer, Success, Failure, Indeterminate, both}
use Rattle.scope.specs.Unify.{Plan, plan, Out, out, run, occurs, state_in, kind_in, bound, bind, settle, meet_kinds, same_node, meet, unify_f, unify}
use Rattle.scope.specs.Recall.{Memory, visited, merged, found, look, note, settled, Result, result, recall_run, recall_known, recall_bind, recall_kinds, recall_meet, recall_f}
use Rattle.scope.proofs.View.{View, seen, view}
use Rattle.scope.proofs.Free.{free, free_nil, free_most}
use Rattle.scope.proofs.Chain.{Chain, cnil, fuel_step}
use Rattle.scope.proofs.Paths.{Tidied, find_idx, find_inside, rep_idem, find_mut_tidied, tidied_view}
use Rattle.scope.proofs.Grow.{ri}
use Rattle.scope.proofs.Fuel.{Chains, plan_chains}
use Rattle.scope.proofs.Inside.{plan_within}
use Rattle.scope.proofs.Sim.{Inside}
use Rattle.scope.proofs.SoundLaws.{SoundNodes}
use Rattle.scope.proofs.Depth.{Whole, whole_after, whole_tidied, sound_whole, chain_on, meet_depth, unify_depth, carry_depth}
use Rattle.scope.proofs.Recalls.{Recalls, Since, since_same, since_then, since_visited, recalls_visited, since_changed, recalls_changed, since_found, recalls_found, recalls_told}
use Rattle.scope.proofs.Recalls.{since_note, recalls_note}

-- two roots that are met: each pair one level down is inside the store, and the depth left is enough for it
module _ (e : Env) (n : ℕ) where
  pub record Tops (ns : List Node) (a b : Ty) (above : List ℕ) : Type 0 where
    pub whole : Whole e n ns
    pub first : a.idx < n
    pub second : b.idx < n
    pub first_top : (view ns).rep a.idx ≡ ty false a.idx
    pub second_top : (view ns).rep b.idx ≡ ty false b.idx
    pub chain : Chain (view ns) a.idx above

  -- both finds
  module _ {ns : List Node} (p q : Ty) {ls : List ℕ} (ok : Whole e n ns) (hp : p.idx < n) (hq : q.idx < n) (c : Chain (view ns) (ri (view ns) p) ls) where
    ns₁ : List Node
    ns₁ = find_mut ns p

    ns₂ : List Node
    ns₂ = find_mut (find_mut ns p) q

    t₁ : Tidied ns (find_mut ns p)
    t₁ = find_mut_tidied ok.forest p

    ok₁ : Whole e n (find_mut ns p)
    ok₁ = whole_tidied e n t₁ ok

    t₂ : Tidied (find_mut ns p) (find_mut (find_mut ns p) q)
    t₂ = find_mut_tidied ok₁.forest q

    same₂ : view (find_mut (find_mut ns p) q) ≡ view (find_mut ns p)
    same₂ = tidied_view t₂ ok₁.forest

    same : view (find_mut (find_mut ns p) q) ≡ view ns
    same = same₂ ∙ tidied_view t₁ ok.forest

    pub tops : Tops (find_mut (find_mut ns p) q) (find ns p) (find (find_mut ns p) q) ls
    tops = record {
      whole = whole_tidied e n t₂ ok₁;
      first = omega (arith, ok.len, find_inside ok.forest p (omega (arith, ok.len)));
      second = omega (arith, ok₁.len, find_inside ok₁.forest q (omega (arith, ok₁.len)));
      first_top = rw (same, find_idx ns p) (rep_idem ok.forest p.idx);
      second_top = rw (same₂, find_idx (find_mut ns p) q) (rep_idem ok₁.forest q.idx);
      chain = subst (λ (x : ℕ). Chain (view (find_mut (find_mut ns p) q)) x ls) (sym (find_idx ns p)) (subst (λ (g : View). Chain g (ri (view ns) p) ls) (sym same) c);
    }

  -- the pairs that two kinds ask for
  module _ {ns : List Node} {a b : Ty} {ls : List ℕ} (t : Tops ns a b ls) {i j : Bool} {k l : Kind} (sa : state_in ns a ≡ Known i k) (sb : state_in ns b ≡ Known j l) where
    pub kids_inside : (c : Bool) → Inside n (plan e.texts k l c).pairs
    unfolding view
    kids_inside c = plan_within e.texts c (t.whole.stable.inside.kinds a.idx i k (ap seen sa)) (t.whole.stable.inside.kinds b.idx j l (ap seen sb))

    pub kids_chains : (c : Bool) → Chains (view ns) (a.idx ∷ ls) (plan e.texts k l c).pairs
    unfolding view
    kids_chains c = plan_chains e.texts (view ns) a.idx ls t.first_top t.chain i k l c (ap seen sa)

    pub kids_room : {f : ℕ} → free n ls ≤ suc f → free n (a.idx ∷ ls) ≤ f
    kids_room h = fuel_step t.whole.stable.good t.chain t.first h

  -- r is what o says, and its memory holds true notes of o's nodes
  pub record Same (m : Memory) (ns : List Node) (o : Out) (r : Result) : Type 0 where
    pub same : r.out ≡ o
    pub recalls : Recalls e.texts n o.nodes r.memory
    pub since : Since m r.memory ns o.nodes

  same_then : {m m₁ : Memory} {ns ns₁ : List Node} {o : Out} {r : Result} → Since m m₁ ns ns₁ → Same m₁ ns₁ o r → Same m ns o r
  same_then s w = record { same = w.same; recalls = w.recalls; since = since_then s w.since }

  same_of : {m : Memory} {ns : List Node} {o o' : Out} {r : Result} → o ≡ o' → Same m ns o' r → Same m ns o r
  same_of {m} {ns} {r = r} q w = subst (λ (o : Out). Same m ns o r) (sym q) w

  abbrev pub SameStep : ℕ → Type 0
  SameStep f = (m : Memory) (ns : List Node) (p q : Ty) (ls : List ℕ) → Whole e n ns → p.idx < n → q.idx < n → Chain (view ns) (ri (view ns) p) ls → free n ls ≤ f
      → Recalls e.texts n ns m → Same m ns (unify_f e.texts n f ns p q) (recall_f e.texts n f m ns p q)

  module _ (f : ℕ) (ih : SameStep f) where
    pub run_same : (m : Memory) (ns : List Node) (r : Answer) (ps : List (Ty × Ty)) (ls : List ℕ) → Whole e n ns → Inside n ps → Chains (view ns) ls ps → free n ls ≤ f
        → Recalls e.texts n ns m → Same m ns (run (unify_f e.texts n f) ns r ps) (recall_run (recall_f e.texts n f) m ns r ps)
    unfolding run recall_run
    run_same m ns r [] ls ok i c h w = record { same = refl; recalls = w; since = since_same }
    run_same m ns r (p ∷ ps) ls ok i c h w =
        let o : Out = unify_f e.texts n f ns p.0 p.1 in
        let v : Result = recall_f e.texts n f m ns p.0 p.1 in
        let i₀ = i p (Memᴰ.head refl) in
        let c₀ = c p (Memᴰ.head refl) in
        let s : Same m ns o v = ih m ns p.0 p.1 ls ok i₀.0 i₀.1 c₀ h w in
        same_then s.since
        (subst (λ (y : Out). Same v.memory o.nodes (run (unify_f e.texts n f) o.nodes (both r o.answer) ps)
        (recall_run (recall_f e.texts n f) v.memory y.nodes (both r y.answer) ps))
        (sym s.same)
        (run_same v.memory o.nodes (both r o.answer) ps ls (whole_after e n ns p.0 p.1 ok i₀.0 i₀.1 f) (λ q z. i q (Memᴰ.tail z))
        (λ q z. chain_on e n ns p.0 p.1 ok i₀.0 i₀.1 f q.0 c₀ (c q (Memᴰ.tail z))) h s.recalls))

    module _ (m : Memory) (ns : List Node) (a b : Ty) (ls : List ℕ) (t : Tops ns a b ls) (h : free n ls ≤ suc f) (w : Recalls e.texts n ns m) where
      -- the depth here changes nothing
      deep : meet (unify_f e.texts n f) e.texts n ns a b ≡ meet (unify_f e.texts n n) e.texts n ns a b
      deep = meet_depth e n f n (unify_depth e n f n) ns a b ls t.whole t.first t.first_top t.chain h (omega (arith, free_most n ls))

      bind_same : Same m ns (bind n ns a b) (recall_bind n m ns a b)
      unfolding bind
      bind_same = go (occurs n ns a.idx b.idx || occurs n ns b.idx a.idx)
        where
          go : (v : Bool) → let o : Out = pick v (out ns Failure) (out (bound ns a b) Success) in Same m ns o (result o (merged o.answer m))
          go true = record { same = refl; recalls = w; since = since_same }
          go false = record { same = refl; recalls = recalls_changed m w; since = since_changed m }

      -- what the children answered: it merges, or it is noted where no node changed
      module _ (o : Out) (m₁ : Memory) (here : meet (unify_f e.texts n f) e.texts n ns a b ≡ settle o.nodes a b o.answer) (w₁ : Recalls e.texts n o.nodes m₁)
          (s : Since m m₁ ns o.nodes) where
        note_same : (r : Answer) → settle o.nodes a b o.answer ≡ out o.nodes r → Same m₁ o.nodes (out o.nodes r) (result (out o.nodes r) (note m₁ m.clock a b r))
        note_same r q = record { same = refl; recalls = recalls_note m₁ m.clock a b r w₁ (λ c z. quiet c z); since = since_note m₁ m.clock a b r }
          where
            quiet : m₁.clock ≡ m.clock → 0 < m.clock → meet (unify_f e.texts n n) e.texts n o.nodes a b ≡ out o.nodes r
            quiet c z =
                subst (λ (ms : List Node). meet (unify_f e.texts n n) e.texts n ms a b ≡ out o.nodes r) (sym (s.still c (λ y. absurd (omega arith))))
                (sym deep ∙ (here ∙ q))

        settle_same : (r : Answer) → o.answer ≡ r → Same m₁ o.nodes (settle o.nodes a b r) (result (settle o.nodes a b r) (settled m₁ m.clock a b r))
        unfolding settle
        settle_same Success q = record { same = refl; recalls = recalls_changed m₁ w₁; since = since_changed m₁ }
        settle_same Failure q = note_same Failure (ap (settle o.nodes a b) q)
        settle_same Indeterminate q = note_same Indeterminate (ap (settle o.nodes a b) q)

      -- two kinds
      module _ (i j : Bool) (k l : Kind) (sa : state_in ns a ≡ Known i k) (sb : state_in ns b ≡ Known j l) where
        abbrev asked : Plan
        asked = plan e.texts k l (xor (xor i a.inv) (xor j b.inv))

        abbrev kids : Out
        kids = run (unify_f e.texts n f) ns asked.base asked.pairs

        pub kids_same : Same m ns kids (recall_run (recall_f e.texts n f) m ns asked.base asked.pairs)
        kids_same =
            let c : Bool = xor (xor i a.inv) (xor j b.inv) in
            run_same m ns asked.base asked.pairs (a.idx ∷ ls) t.whole (kids_inside t sa sb c) (kids_chains t sa sb c) (kids_room t sa sb h) w

        known_same : meet (unify_f e.texts n f) e.texts n ns a b ≡ settle kids.nodes a b kids.answer → (v : Option Answer) → look m a b ≡ v
            → Same m ns (settle kids.nodes a b kids.answer) (recall_known (recall_f e.texts n f) e.texts m ns a b (xor i a.inv, k) (xor j b.inv, l) v)
        known_same here (some r) q =
            same_of (sym here ∙ (deep ∙ recalls_told m a b r w q)) (record { same = refl; recalls = w; since = since_same })
        known_same here none q =
            let s = kids_same in
            let v : Result = recall_run (recall_f e.texts n f) m ns asked.base asked.pairs in
            same_then s.since
            (subst (λ (y : Out). Same v.memory kids.nodes (settle kids.nodes a b kids.answer) (result (settle y.nodes a b y.answer) (settled v.memory m.clock a b y.answer)))
            (sym s.same) (settle_same kids v.memory here s.recalls s.since kids.answer refl))

      kinds_same : (v : Bool) → eqb a.idx b.idx ≡ v → v ≡ false → (sa sb : State) → state_in ns a ≡ sa → state_in ns b ≡ sb
          → Same m ns (meet_kinds (unify_f e.texts n f) e.texts n ns a b (kind_of a sa) (kind_of b sb))
          (recall_kinds (recall_f e.texts n f) e.texts n m ns a b (kind_of a sa) (kind_of b sb))
      unfolding meet
      kinds_same v q z (Unknown s) sb p r = bind_same
      kinds_same v q z InferenceFailed sb p r = bind_same
      kinds_same v q z (Known i k) (Unknown s) p r = bind_same
      kinds_same v q z (Known i k) InferenceFailed p r = bind_same
      kinds_same v q z (Known i k) (Known j l) p r = known_same i j k l p r (rw (q, z, p, r) refl) (look m a b) refl

      pub meet_same : Same m ns (meet (unify_f e.texts n f) e.texts n ns a b) (recall_meet (recall_f e.texts n f) e.texts n m ns a b)
      unfolding meet recall_meet
      meet_same = go (eqb a.idx b.idx) refl
        where
          go : (v : Bool) → eqb a.idx b.idx ≡ v
              → Same m ns (pick v (out ns (same_node n ns a b)) (meet_kinds (unify_f e.texts n f) e.texts n ns a b (kind_in ns a) (kind_in ns b)))
              (pick v (result (out ns (same_node n ns a b)) m) (recall_kinds (recall_f e.texts n f) e.texts n m ns a b (kind_in ns a) (kind_in ns b)))
          go true q = record { same = refl; recalls = w; since = since_same }
          go false q = kinds_same false q refl (state_in ns a) (state_in ns b) refl refl

  -- before the roots meet
  module _ {m : Memory} {ns : List Node} (p q : Ty) where
    pub found_since : Since m (found (found (visited m) ns p) (find_mut ns p) q) ns (find_mut (find_mut ns p) q)
    found_since = since_then (since_then (since_visited m) (since_found (visited m) ns p)) (since_found (found (visited m) ns p) (find_mut ns p) q)

    pub found_recalls : Recalls e.texts n ns m → Recalls e.texts n (find_mut (find_mut ns p) q) (found (found (visited m) ns p) (find_mut ns p) q)
    found_recalls w = recalls_found (found (visited m) ns p) (find_mut ns p) q (recalls_found (visited m) ns p (recalls_visited m w))

  pub step_same : (f : ℕ) → SameStep f
  unfolding unify_f recall_f
  step_same zero m ns p q ls ok hp hq c h w = record { same = refl; recalls = w; since = since_same }
  step_same (suc f) m ns p q ls ok hp hq c h w =
      same_then (found_since p q) (meet_same f (step_same f) (found (found (visited m) ns p) (find_mut ns p) q) (find_mut (find_mut ns p) q) (find ns p) (find (find_mut ns p) q) ls
      (tops p q ok hp hq c) h (found_recalls p q w))

-- on a sound store, whatever true notes the memory holds: two types, and whatever a plan asks
module _ (e : Env) {ns : List Node} (ok : SoundNodes e ns) (m : Memory) (w : Recalls e.texts (length ns) ns m) where
  pub recall_same : (p q : Ty) → p.idx < length ns → q.idx < length ns → (recall_f e.texts (length ns) (length ns) m ns p q).out ≡ unify e.texts ns p q
  unfolding unify
  recall_same p q hp hq = (step_same e (length ns) (length ns) m ns p q [] (sound_whole e ok) hp hq cnil (free_nil (length ns)) w).same

  pub recalls_same : (r : Answer) (ps : List (Ty × Ty)) → Inside (length ns) ps
      → (recall_run (recall_f e.texts (length ns) (length ns)) m ns r ps).out ≡ run (unify e.texts) ns r ps
  recalls_same r ps i =
      (run_same e (length ns) (length ns) (step_same e (length ns) (length ns)) m ns r ps [] (sound_whole e ok) i (λ p z. cnil) (free_nil (length ns)) w).same
      ∙ sym (carry_depth e ok (length ns) refl r ps i)
