-- The visits of a unify that remembers. What is left to do is `room`: the pairs of which nothing is told, and for each change that can still come all pairs again and
-- as many as are open in one another. No step raises it, and each pair that is worked through lowers it: either a node changed meanwhile, or the pair is noted, and it
-- was not noted before, since no pair below it has its first root. A pair that is worked through visits at most 255. Assumes nothing.
use mathlib.Core.Path.{◌≡◌, refl, sym, ap, subst, ◌∙◌}
use mathlib.Core.List.Memᴰ
use mathlib.Core.List.{List, [], ◌∷◌}
use mathlib.Core.Bool.{Bool, true, false, ◌||◌}
use mathlib.Core.Option.{Option, none, some}
use mathlib.Core.Logic.{◌≢◌, ◌⊎◌, inl, inr}
use Prim.Native.Nat.{ℕ, zero, suc, ◌+◌, ◌*◌, ◌≤◌, ◌<◌}
use native.Mathlib.Nat.{mul-le-mul_left}
use native.Mathlib.Omega.{arith}
use native.Mathlib.Decide.{ℕ_discrete}
use lib.Dec.{eqb}
use lib.ListN.{length}
use borrow.Author.Tests.{eq-eqb, ltb-true}
use Rattle.scope.specs.Base.{pick, xor}
use Rattle.scope.specs.Limits.{MAX_WIDTH}
use Rattle.scope.specs.Chart.{Env}
use Rattle.scope.specs.Types.{Ty, ty}
use Rattle.scope.specs.Nodes.{Kind, State, Known, Unknown, InferenceFailed, Node, find, find_mut, kind_of}
use Rattle.scope.specs.Answers.{Answer, Success, Failure, Indeterminate, both}
use Rattle.scope.specs.Unify.{Plan, plan, Out, out, run, occurs, state_in, kind_in, merge, bound, bind, settle, same_node, unify_f, unify, carry}
use Rattle.scope.specs.Sound.{in_store}
use Rattle.scope.specs.Recall.{Memory, begun, visited_at, visited, merged, found, look, settled, Result, result}
use Rattle.scope.specs.Recall.{recall_run, recall_bind, recall_known, recall_kinds, recall_meet, recall_f, recall, recall_carry}
use Rattle.scope.specs.Visits.{pairs_of, changes_of, Remembers, pair_in, FewVisits}
use Rattle.scope.proofs.View.{View, seen, view}
use Rattle.scope.proofs.View as Seen
use Rattle.scope.proofs.TestLaws.{tf, and_left, and_right, of-all}
use Rattle.scope.proofs.Free.{memb, memb_first, free, free_nil}
use Rattle.scope.proofs.Chain.{Chain, cnil, chain_new}
use Rattle.scope.proofs.Paths.{Forest, find_mut_tidied, tidied_forest}
use Rattle.scope.proofs.Merge.{Roots, roots_of}
use Rattle.scope.proofs.Grow.{ri}
use Rattle.scope.proofs.Fuel.{Chains}
use Rattle.scope.proofs.Sim.{Sim, Inside, run_sim, unify_sim}
use Rattle.scope.proofs.SoundLaws.{SoundNodes, sound_facts}
use Rattle.scope.proofs.UnifyKept.{Stable, keeps}
use Rattle.scope.proofs.Depth.{Whole, sound_whole, whole_after, chain_on}
use Rattle.scope.proofs.Width.{plan_narrow}
use Rattle.scope.proofs.Changes.{changes_left, changes_most, merge_fewer}
use Rattle.scope.proofs.Untold.{silent, untold, untold_most}
use Rattle.scope.proofs.Recalls.{Recalls, recalls_begun, visited_notes}
use Rattle.scope.proofs.RecallSame.{Tops, tops, kids_inside, kids_chains, kids_room, Same, step_same, kids_same, found_recalls, recall_same, recalls_same}
use Rattle.scope.proofs.Goes.{waits, moves, Goes, goes_then, goes_visited, goes_changed, goes_found, goes_note, spent, visited_spent, waiting_spent, found_spent, settled_spent}
use Rattle.scope.proofs.Goes.{New, new_then, found_notes, new_same, new_settled, new_rest, new_silent, settled_told}
use Rattle.scope.proofs.Goes.{room, room_le, moves_le, moves_lt, room_lt, bill, Cheap, cheap_same, cheap_then, cheap_goes}

-- a pair that is worked through, in numbers: what is spent (s), untold (u) and can still move (d) before it, after its children and at its end. A change costs K, and one
-- more at the next level
module _ (K s s₁ s₂ u u₁ u₂ d d₁ d₂ : ℕ) where
  abbrev Paid : Type 0
  Paid = s₂ + MAX_WIDTH * (u₂ + suc K * d₂) ≤ s + MAX_WIDTH * (u + suc K * d)

  ticked : (c : ℕ) → s₂ ≡ s₁ → s₁ + MAX_WIDTH * (u₁ + K * d₁) ≤ c + (s + MAX_WIDTH * (u + K * d)) → c ≤ MAX_WIDTH → u₂ + K * d₂ ≤ u₁ + K * d₁ → d₂ < d → Paid
  ticked c e h w r l = omega arith

  worked : (c : ℕ) → s₂ ≡ s₁ → s₁ + MAX_WIDTH * (u₁ + K * d₁) ≤ c + (s + MAX_WIDTH * (u + K * d)) → c ≤ MAX_WIDTH → u₂ + K * d₂ < u₁ + K * d₁ → d₂ ≤ d → Paid
  worked c e h w r l = omega arith

  waited : s₂ ≡ s₁ → s₁ + MAX_WIDTH * (u₁ + K * d₁) ≤ s + MAX_WIDTH * (u + K * d) → u₂ + K * d₂ ≤ u₁ + K * d₁ → d₂ ≤ d → Paid
  waited e h r l = omega arith

-- two roots, whichever stays
either_way : {ns : List Node} (a b : Ty) → Forest ns → a.idx < length ns → b.idx < length ns → a.idx ≢ b.idx → (view ns).rep a.idx ≡ ty false a.idx
    → (view ns).rep b.idx ≡ ty false b.idx → Roots ns a b × Roots ns b a
either_way a b ok ha hb apart ta tb = (roots_of a b ok ha hb apart ta tb, roots_of b a ok hb ha (λ q. apart (sym q)) tb ta)

module _ (e : Env) (n : ℕ) where
  abbrev CheapStep : ℕ → Type 0
  CheapStep f = (m : Memory) (ns : List Node) (p q : Ty) (ls : List ℕ) → Whole e n ns → p.idx < n → q.idx < n → Chain (view ns) (ri (view ns) p) ls → free n ls ≤ f
      → Recalls e.texts n ns m → let r : Result = recall_f e.texts n f m ns p q in Cheap n f 1 ls m r.memory ns r.out.nodes

  module _ (f : ℕ) (ih : CheapStep f) where
    run_cheap : (m : Memory) (ns : List Node) (r : Answer) (ps : List (Ty × Ty)) (ls : List ℕ) → Whole e n ns → Inside n ps → Chains (view ns) ls ps → free n ls ≤ f
        → Recalls e.texts n ns m → let v : Result = recall_run (recall_f e.texts n f) m ns r ps in Cheap n f (length ps) ls m v.memory ns v.out.nodes
    unfolding recall_run
    run_cheap m ns r [] ls ok i c h w = cheap_same n
    run_cheap m ns r (p ∷ ps) ls ok i c h w =
        let o : Out = unify_f e.texts n f ns p.0 p.1 in
        let v : Result = recall_f e.texts n f m ns p.0 p.1 in
        let i₀ = i p (Memᴰ.head refl) in
        let c₀ = c p (Memᴰ.head refl) in
        let s : Same e n m ns o v = step_same e n f m ns p.0 p.1 ls ok i₀.0 i₀.1 c₀ h w in
        let rest : (y : Out) → o ≡ y → let z : Result = recall_run (recall_f e.texts n f) v.memory y.nodes (both r y.answer) ps in
        Cheap n f (length ps) ls v.memory z.memory y.nodes z.out.nodes =
        λ y q. subst (λ (y : Out). let z : Result = recall_run (recall_f e.texts n f) v.memory y.nodes (both r y.answer) ps in
        Cheap n f (length ps) ls v.memory z.memory y.nodes z.out.nodes) q
        (run_cheap v.memory o.nodes (both r o.answer) ps ls (whole_after e n ns p.0 p.1 ok i₀.0 i₀.1 f) (λ q z. i q (Memᴰ.tail z))
        (λ q z. chain_on e n ns p.0 p.1 ok i₀.0 i₀.1 f q.0 c₀ (c q (Memᴰ.tail z))) h s.recalls) in
        cheap_then n (omega arith) (ih m ns p.0 p.1 ls ok i₀.0 i₀.1 c₀ h w) (rest v.out (sym s.same))

    module _ (m : Memory) (ns : List Node) (a b : Ty) (ls : List ℕ) (t : Tops e n ns a b ls) (h : free n ls ≤ suc f) (w : Recalls e.texts n ns m) where
      -- the first root is in no chain above it
      fresh : memb a.idx ls ≡ false
      fresh = chain_new t.whole.stable.good t.chain

      bind_cheap : a.idx ≢ b.idx → let r : Result = recall_bind n m ns a b in Cheap n (suc f) 0 ls m r.memory ns r.out.nodes
      unfolding bind
      bind_cheap apart = go (occurs n ns a.idx b.idx || occurs n ns b.idx a.idx)
        where
          go : (v : Bool) → let o : Out = pick v (out ns Failure) (out (bound ns a b) Success) in Cheap n (suc f) 0 ls m (merged o.answer m) ns o.nodes
          go true = cheap_same n
          go false =
              let two = either_way a b t.whole.forest (omega (arith, t.whole.len, t.first)) (omega (arith, t.whole.len, t.second)) apart t.first_top t.second_top in
              cheap_goes n (goes_changed m (merge_fewer ns a b _ _ two.0 two.1)) (new_same refl) refl

      -- two kinds whose children are unified
      module _ (apart : a.idx ≢ b.idx) (i j : Bool) (k l : Kind) (sa : state_in ns a ≡ Known i k) (sb : state_in ns b ≡ Known j l) where
        abbrev turned : Bool
        turned = xor (xor i a.inv) (xor j b.inv)

        abbrev asked : Plan
        asked = plan e.texts k l turned

        abbrev plain : Out
        plain = run (unify_f e.texts n f) ns asked.base asked.pairs

        abbrev done : Result
        done = recall_run (recall_f e.texts n f) m ns asked.base asked.pairs

        -- the roots are roots still
        two_roots : Roots plain.nodes a b × Roots plain.nodes b a
        unfolding view
        two_roots =
            let r : Sim ns plain (Seen.run (Seen.unify e.texts n f) (view ns) asked.base asked.pairs) =
            run_sim n (Stable e n) (unify_f e.texts n f) (Seen.unify e.texts n f) ((keeps e n).step f) (unify_sim e.texts n (Stable e n) (keeps e n) f) ns asked.base
            asked.pairs t.whole.forest t.whole.len t.whole.stable (kids_inside e n t sa sb turned) in
            let y = (keeps e n).tops f (view ns) a b i j k l t.whole.stable t.first t.second apart t.first_top t.second_top (ap seen sa) (ap seen sb) in
            either_way a b r.forest (omega (arith, r.len, t.whole.len, t.first)) (omega (arith, r.len, t.whole.len, t.second)) apart
            (ap (λ (g : View). g.rep a.idx) r.views ∙ y.0) (ap (λ (g : View). g.rep b.idx) r.views ∙ y.1)

        settled_goes : (m₁ : Memory) (c : ℕ) (o : Out) → o ≡ plain → (r : Answer) → Goes m₁ (settled m₁ c a b r) o.nodes (settle o.nodes a b r).nodes
        unfolding settle
        settled_goes m₁ c o q Success =
            goes_changed m₁ (subst (λ (o : Out). changes_left (merge o.nodes a b (state_in o.nodes a) (state_in o.nodes b)) < changes_left o.nodes) (sym q)
            (merge_fewer plain.nodes a b (state_in plain.nodes a) (state_in plain.nodes b) two_roots.0 two_roots.1))
        settled_goes m₁ c o q Failure = goes_note m₁ c a b Failure
        settled_goes m₁ c o q Indeterminate = goes_note m₁ c a b Indeterminate

        abbrev m₁ : Memory
        m₁ = done.memory

        abbrev m₂ : Memory
        m₂ = settled m₁ m.clock a b done.out.answer

        abbrev ns₁ : List Node
        ns₁ = done.out.nodes

        abbrev ns₂ : List Node
        ns₂ = (settle ns₁ a b done.out.answer).nodes

        same : Same e n m ns plain done
        same = kids_same e n f (step_same e n f) m ns a b ls t h w i j k l sa sb

        runs : Cheap n f (length asked.pairs) (a.idx ∷ ls) m m₁ ns ns₁
        runs = run_cheap m ns asked.base asked.pairs (a.idx ∷ ls) t.whole (kids_inside e n t sa sb turned) (kids_chains e n t sa sb turned) (kids_room e n t sa sb h) w

        ends : Goes m₁ m₂ ns₁ ns₂
        ends = settled_goes m₁ m.clock done.out same.same done.out.answer

        news : New ls m m₂
        news = new_then (new_rest a.idx runs.new) (new_settled m₁ m.clock a b done.out.answer fresh)

        narrow : length asked.pairs ≤ MAX_WIDTH
        unfolding view
        narrow = plan_narrow e k l turned (t.whole.stable.inside.kinds a.idx i k (ap seen sa)).made

        -- the clock moved, or has not started, or the pair is told now and was not
        total : look m a b ≡ none → bill n (suc (pairs_of n + f)) m₂ ns₂ ≤ bill n (suc (pairs_of n + f)) m ns
        total s = go (ℕ_discrete m₂.clock m.clock)
          where
            sp : spent m₂ ≡ spent m₁
            sp = settled_spent m₁ m.clock a b done.out.answer

            all : Goes m m₂ ns ns₂
            all = goes_then runs.goes ends

            le : room n (pairs_of n + f) m₂ ns₂ ≤ room n (pairs_of n + f) m₁ ns₁
            le = room_le n ends (pairs_of n + f) (omega arith)

            on : (m.clock ≡ 0) ⊎ (silent m₂ a b ≡ false) → m₂.clock ≡ m.clock → bill n (suc (pairs_of n + f)) m₂ ns₂ ≤ bill n (suc (pairs_of n + f)) m ns
            on (inl z) q =
                waited (pairs_of n + f) (spent m) (spent m₁) (spent m₂) (untold n m) (untold n m₁) (untold n m₂) (moves m ns) (moves m₁ ns₁) (moves m₂ ns₂)
                sp (runs.waiting (omega (arith, ends.on, q, z))) le (moves_le all)
            on (inr z) q =
                let c₁ : m₁.clock ≡ m.clock = omega (arith, runs.goes.on, ends.on, q) in
                worked (pairs_of n + f) (spent m) (spent m₁) (spent m₂) (untold n m) (untold n m₁) (untold n m₂) (moves m ns) (moves m₁ ns₁) (moves m₂ ns₂) (length asked.pairs)
                sp runs.most narrow
                (room_lt n ends (pairs_of n + f) (q ∙ sym c₁) a b t.first t.second (new_silent m m₁ a b runs.new c₁ (memb_first a.idx ls) s) z)
                (moves_le all)

            go : Dec (m₂.clock ≡ m.clock) → bill n (suc (pairs_of n + f)) m₂ ns₂ ≤ bill n (suc (pairs_of n + f)) m ns
            go (yes q) = on (settled_told m₁ m.clock a b done.out.answer runs.goes.on q) q
            go (no q) =
                ticked (pairs_of n + f) (spent m) (spent m₁) (spent m₂) (untold n m) (untold n m₁) (untold n m₂) (moves m ns) (moves m₁ ns₁) (moves m₂ ns₂) (length asked.pairs)
                sp runs.most narrow le (moves_lt all q)

        kids_cheap : look m a b ≡ none → Cheap n (suc f) 0 ls m m₂ ns ns₂
        kids_cheap s =
            let z : suc (pairs_of n + f) ≡ pairs_of n + suc f = omega arith in
            let all = subst (λ (k : ℕ). bill n k m₂ ns₂ ≤ bill n k m ns) z (total s) in
            record { goes = goes_then runs.goes ends; new = news; waiting = λ q. all; most = omega (arith, all) }

      kinds_cheap : a.idx ≢ b.idx → (sa sb : State) → state_in ns a ≡ sa → state_in ns b ≡ sb
          → let r : Result = recall_kinds (recall_f e.texts n f) e.texts n m ns a b (kind_of a sa) (kind_of b sb) in Cheap n (suc f) 0 ls m r.memory ns r.out.nodes
      kinds_cheap apart (Unknown s) sb p r = bind_cheap apart
      kinds_cheap apart InferenceFailed sb p r = bind_cheap apart
      kinds_cheap apart (Known i k) (Unknown s) p r = bind_cheap apart
      kinds_cheap apart (Known i k) InferenceFailed p r = bind_cheap apart
      kinds_cheap apart (Known i k) (Known j l) p r = go (look m a b) refl
        where
          go : (o : Option Answer) → look m a b ≡ o
              → let v : Result = recall_known (recall_f e.texts n f) e.texts m ns a b (xor i a.inv, k) (xor j b.inv, l) o in Cheap n (suc f) 0 ls m v.memory ns v.out.nodes
          go (some v) q = cheap_same n
          go none q = kids_cheap apart i j k l p r q

      meet_cheap : let r : Result = recall_meet (recall_f e.texts n f) e.texts n m ns a b in Cheap n (suc f) 0 ls m r.memory ns r.out.nodes
      unfolding recall_meet
      meet_cheap = go (eqb a.idx b.idx) refl
        where
          go : (v : Bool) → eqb a.idx b.idx ≡ v
              → let r : Result = pick v (result (out ns (same_node n ns a b)) m) (recall_kinds (recall_f e.texts n f) e.texts n m ns a b (kind_in ns a) (kind_in ns b)) in
              Cheap n (suc f) 0 ls m r.memory ns r.out.nodes
          go true q = cheap_same n
          go false q = kinds_cheap (λ z. tf (sym (eq-eqb a.idx b.idx z) ∙ q)) (state_in ns a) (state_in ns b) refl refl

  -- a visit is counted, and both finds
  before_cheap : (f : ℕ) (m : Memory) (ns : List Node) (p q : Ty) (ls : List ℕ) → Whole e n ns
      → Cheap n f 1 ls m (found (found (visited m) ns p) (find_mut ns p) q) ns (find_mut (find_mut ns p) q)
  unfolding visited
  before_cheap f m ns p q ls ok =
      let m₁ : Memory = visited_at m.clock m.left m.notes m.visits in
      let ok₁ : Forest (find_mut ns p) = tidied_forest (find_mut_tidied ok.forest p) ok.forest in
      let g₁ : Goes m m₁ ns ns = goes_visited m.clock m.left m.notes m.visits in
      let h = room_le n g₁ (pairs_of n + f) (omega arith) in
      cheap_then n {c = 1} {d = 0} (omega arith) (record {
        goes = g₁;
        new = new_same (visited_notes m.clock m.left m.notes m.visits);
        waiting = λ z. omega (arith, waiting_spent m.clock m.left m.notes m.visits z, h);
        most = omega (arith, visited_spent m.clock m.left m.notes m.visits, h);
      })
      (cheap_goes n (goes_then (goes_found m₁ ok.forest p) (goes_found (found m₁ ns p) ok₁ q)) (new_same (found_notes (found m₁ ns p) (find_mut ns p) q ∙ found_notes m₁ ns p))
      (found_spent (found m₁ ns p) (find_mut ns p) q ∙ found_spent m₁ ns p))

  step_cheap : (f : ℕ) → CheapStep f
  unfolding recall_f
  step_cheap zero m ns p q ls ok hp hq c h w = cheap_same n
  step_cheap (suc f) m ns p q ls ok hp hq c h w =
      cheap_then n {c = 1} {d = 0} (omega arith) (before_cheap (suc f) m ns p q ls ok)
      (meet_cheap f (step_cheap f) (found (found (visited m) ns p) (find_mut ns p) q) (find_mut (find_mut ns p) q) (find ns p) (find (find_mut ns p) q) ls (tops e n p q ok hp hq c) h
      (found_recalls e n p q w))

-- in all, from a memory that holds nothing
module _ (e : Env) {ns : List Node} (ok : SoundNodes e ns) (w : ℕ) where
  abbrev n : ℕ
  n = length ns

  begun_moves : moves (begun w) ns ≤ changes_of n + 1
  unfolding waits
  begun_moves = omega (arith, changes_most ns)

  remembers_by : {k : ℕ} {o : Out} {r : Result} → r.out ≡ o → Cheap n n k [] (begun w) r.memory ns r.out.nodes → Remembers w k n o r
  remembers_by q c = record {
    same = q;
    visits = omega (arith, c.most, untold_most n (begun w), mul-le-mul_left (pairs_of n + n) begun_moves);
    clock = omega (arith, c.goes.fewer, begun_moves);
  }

  pair_remembers : (p q : Ty) → p.idx < n → q.idx < n → Remembers w 1 n (unify e.texts ns p q) (recall w e.texts ns p q)
  unfolding recall
  pair_remembers p q hp hq =
      remembers_by (recall_same e ok (begun w) (recalls_begun w) p q hp hq)
      (step_cheap e n n (begun w) ns p q [] (sound_whole e ok) hp hq cnil (free_nil n) (recalls_begun w))

  carry_remembers : (l : Plan) → Inside n l.pairs → Remembers w (length l.pairs) n (carry e.texts ns l) (recall_carry w e.texts ns l)
  unfolding recall_carry
  carry_remembers l i =
      remembers_by (recalls_same e ok (begun w) (recalls_begun w) l.base l.pairs i)
      (run_cheap e n n (step_cheap e n n) (begun w) ns l.base l.pairs [] (sound_whole e ok) i (λ p z. cnil) (free_nil n) (recalls_begun w))

pair_inside : (ns : List Node) (p : Ty × Ty) → pair_in ns p ≡ true → (p.0.idx < length ns) × (p.1.idx < length ns)
pair_inside ns p h =
    (ltb-true p.0.idx (length ns) (and_left (in_store ns p.0) (in_store ns p.1) h), ltb-true p.1.idx (length ns) (and_right (in_store ns p.0) (in_store ns p.1) h))

pub recall_visits : FewVisits
recall_visits e s h w =
    let ok = (sound_facts e s h).nodes in (
      λ p q i. let j = pair_inside s.nodes (p, q) i in pair_remembers e ok w p q j.0 j.1,
      λ l i. carry_remembers e ok w l (λ p z. pair_inside s.nodes p (of-all (pair_in s.nodes) l.pairs i z)),
    )
