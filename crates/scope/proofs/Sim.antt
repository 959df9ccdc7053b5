-- `unify` over a store's nodes is `unify` over their view, in any forest: what is proved of the view holds of the store. Spans and failed marks
-- are no part of the view. Assumes nothing.
use mathlib.Core.Path.{◌≡◌, refl, sym, ap, ap₂, subst, ◌∙◌}
use mathlib.Core.List.{List, [], ◌∷◌, Memᴰ}
use mathlib.Core.Bool.{Bool, true, false, not, ◌&&◌, ◌||◌}
use mathlib.Core.Option.{some}
use mathlib.Core.Logic.{◌≢◌}
use Prim.Native.Nat.{ℕ, zero, suc, ◌≤◌, ◌<◌}
use native.Mathlib.Omega.{arith}
use native.Mathlib.Decide.{ℕ_discrete, dec_lt}
use lib.Dec.{eqb, ltb}
use lib.ListN.{length}
use borrow.Author.Tests.{eq-eqb, ne_eqb, lt-ltb, le-ltb}
use Rattle.scope.specs.Base.{pick, xor, any, all}
use Rattle.scope.specs.Names.{Texts}
use Rattle.scope.specs.Types.{Ty, ty}
use Rattle.scope.specs.Kinds.{self_dual, PARAM}
use Rattle.scope.specs.Nodes.{Kind, State, Known, Unknown, InferenceFailed, Node, at, state_of, size_of, find, find_mut, kids_of, kind_of}
use Rattle.scope.specs.Answers.{Answer, Success, Failure, Indeterminate, both, of_bool}
use Rattle.scope.specs.Unify.{Plan, plan, Out, out, run, occurs, self_inverse_at, join, state_in, kind_in, kept, merge, bound, bind, settle, meet_kinds, same_node, meet, unify_f, unify}
use Rattle.scope.proofs.View.{VState, unknown, known, View, sel, root_of, seen, view}
use Rattle.scope.proofs.View as Seen
use Rattle.scope.proofs.ViewLaws.{xor_comm}
use Rattle.scope.proofs.PlanLaws.{plan_left, plan_right}
use Rattle.scope.proofs.Paths.{Forest, Tidied, find_root, find_idx, rep_idem, find_inside, find_mut_tidied, tidied_forest, tidied_view}
use Rattle.scope.proofs.Merge.{Shallow, tidied_shallow, Roots, roots_of, join_forest, join_len, join_shallow, join_view}
use Rattle.scope.proofs.Sizes.{Sized, link_sized}

-- a test as the view has it
eqb-sel {ℓ} : {A : Type ℓ} (a b : ℕ) (x y : A) → pick (eqb a b) x y ≡ sel (ℕ_discrete a b) x y
eqb-sel a b x y = go (ℕ_discrete a b)
  where
    go : (d : Dec (a ≡ b)) → pick (eqb a b) x y ≡ sel d x y
    go (yes e) = ap (λ (t : Bool). pick t x y) (eq-eqb a b e)
    go (no n) = ap (λ (t : Bool). pick t x y) (ne_eqb a b n)

or_pick : (a b : Bool) → (a || b) ≡ pick a true b
or_pick true b = refl
or_pick false b = refl

any_same : (p q : Ty → Bool) → ((c : Ty) → p c ≡ q c) → (cs : List Ty) → any p cs ≡ any q cs
any_same p q h [] = refl
any_same p q h (c ∷ cs) = ap₂ ◌||◌ (h c) (any_same p q h cs)

all_same : (p q : Ty → Bool) → ((c : Ty) → p c ≡ q c) → (cs : List Ty) → all p cs ≡ all q cs
all_same p q h [] = refl
all_same p q h (c ∷ cs) = ap₂ ◌&&◌ (h c) (all_same p q h cs)

-- `occurs`, of any nodes
pub occurs_view : (f : ℕ) (ns : List Node) (x y : ℕ) → occurs f ns x y ≡ Seen.occurs f (view ns) x y
unfolding occurs Seen.occurs view
occurs_view zero ns x y = refl
occurs_view (suc f) ns x y =
    or_pick (eqb y x) (any (λ c. occurs f ns x (find ns c).idx) (kids_of (state_of (at ns y))))
    ∙ eqb-sel y x true (any (λ c. occurs f ns x (find ns c).idx) (kids_of (state_of (at ns y))))
    ∙ ap (sel (ℕ_discrete y x) true) (go (state_of (at ns y)) (λ c. occurs_view f ns x (find ns c).idx ∙ ap (Seen.occurs f (view ns) x) (find_idx ns c)))
  where
    go : (st : State) → ((c : Ty) → occurs f ns x (find ns c).idx ≡ Seen.occurs f (view ns) x ((view ns).rep c.idx).idx)
        → any (λ c. occurs f ns x (find ns c).idx) (kids_of st) ≡ Seen.occurs_st (λ c. Seen.occurs f (view ns) x ((view ns).rep c.idx).idx) (seen st)
    go (Known i k) h = any_same _ _ h k.kids
    go (Unknown p) h = refl
    go InferenceFailed h = refl

-- `self_inverse`, of any nodes
pub self_inverse_view : (param : Bool) (f : ℕ) (ns : List Node) (a : ℕ) → self_inverse_at param f ns a ≡ Seen.self_inverse param f (view ns) a
unfolding self_inverse_at Seen.self_inverse view
self_inverse_view param zero ns a = refl
self_inverse_view param (suc f) ns a =
    go (state_of (at ns a)) refl (λ c. self_inverse_view param f ns (find ns c).idx ∙ ap (Seen.self_inverse param f (view ns)) (find_idx ns c))
  where
    go : (st : State) → state_of (at ns a) ≡ st → ((c : Ty) → self_inverse_at param f ns (find ns c).idx ≡ Seen.self_inverse param f (view ns) ((view ns).rep c.idx).idx)
        → self_inverse_at param (suc f) ns a ≡ Seen.self_st param (λ c. Seen.self_inverse param f (view ns) ((view ns).rep c.idx).idx) (seen st)
    go (Known i k) e h = rw (e, self_inverse_at) (ap (λ (b : Bool). pick (eqb k.head.code PARAM) param (self_dual k.head && b)) (all_same _ _ h k.kids))
    go (Unknown p) e h = rw (e, self_inverse_at)
    go InferenceFailed e h = rw (e, self_inverse_at)

-- a call on nodes and one on their view: the same answer, and the nodes left have the view left; the nodes are a forest of the same length,
-- and depths and sizes are kept
pub record Sim (ns : List Node) (o : Out) (v : Seen.Out) : Type 0 where
  pub forest : Forest o.nodes
  pub len : length o.nodes ≡ length ns
  pub views : view o.nodes ≡ v.view
  pub answers : o.answer ≡ v.answer
  pub shallow : Shallow ns → Shallow o.nodes
  pub sized : Sized (length ns) (view ns) → Sized (length ns) v.view

sim_same : {ns : List Node} {r r' : Answer} → Forest ns → r ≡ r' → Sim ns (out ns r) (Seen.out (view ns) r')
sim_same ok e = record { forest = ok; len = refl; views = refl; answers = e; shallow = λ s. s; sized = λ s. s }

pub sim_then : {ns ms : List Node} {o : Out} {v : Seen.Out} → length ms ≡ length ns → (Shallow ns → Shallow ms) → (Sized (length ns) (view ns) → Sized (length ms) (view ms))
    → Sim ms o v → Sim ns o v
sim_then {ns} {ms} {o} {v} len shallow sized m = record {
  forest = m.forest;
  len = m.len ∙ len;
  views = m.views;
  answers = m.answers;
  shallow = λ s. m.shallow (shallow s);
  sized = λ s. subst (λ (n : ℕ). Sized n v.view) len (m.sized (sized s));
}

sim_to : {ns : List Node} {o : Out} {v v' : Seen.Out} → v ≡ v' → Sim ns o v → Sim ns o v'
sim_to {ns} {o} e m = subst (Sim ns o) e m

join_sim : (ns : List Node) (w l : Ty) (st : State) → Forest ns → Roots ns w l → size_of (at ns l.idx) ≤ size_of (at ns w.idx)
    → Sim ns (out (join ns w l st) Success) (Seen.out (Seen.join (view ns) w l (seen st)) Success)
join_sim ns w l st ok two le = record {
  forest = join_forest ns w l st two ok;
  len = join_len ns w l st two;
  views = join_view ns w l st two ok;
  answers = refl;
  shallow = join_shallow ns w l st two ok le;
  sized = link_sized (length ns) (view ns) w.idx l.idx (xor l.inv w.inv) (seen st) two.apart two.w_inside two.l_inside;
}

-- the state that stays, as the view has it; w is a or b
kept_seen : (ns : List Node) (w a b : Ty) (sa sb : State) → (seen sa ≡ unknown → seen sb ≡ unknown → seen (state_in ns w) ≡ unknown)
    → seen (kept ns w (kind_of a sa) (kind_of b sb)) ≡ Seen.turn w.inv (Seen.or_st (Seen.turn a.inv (seen sa)) (Seen.turn b.inv (seen sb)))
kept_seen ns w a b (Known i k) sb h = ap (λ (c : Bool). known (xor w.inv c) k) (xor_comm i a.inv)
kept_seen ns w a b (Unknown p) (Known j m) h = ap (λ (c : Bool). known (xor w.inv c) m) (xor_comm j b.inv)
kept_seen ns w a b (Unknown p) (Unknown q) h = h refl refl
kept_seen ns w a b (Unknown p) InferenceFailed h = h refl refl
kept_seen ns w a b InferenceFailed (Known j m) h = ap (λ (c : Bool). known (xor w.inv c) m) (xor_comm j b.inv)
kept_seen ns w a b InferenceFailed (Unknown q) h = h refl refl
kept_seen ns w a b InferenceFailed InferenceFailed h = h refl refl

-- two roots of a forest
module _ (ns : List Node) (a b : Ty) (ok : Forest ns) (ha : a.idx < length ns) (hb : b.idx < length ns) (apart : a.idx ≢ b.idx)
    (atop : (view ns).rep a.idx ≡ ty false a.idx) (btop : (view ns).rep b.idx ≡ ty false b.idx) where
  merge_sim : (sa sb : State) (ka kb : VState) → seen sa ≡ ka → seen sb ≡ kb
      → Sim ns (out (merge ns a b sa sb) Success)
      (sel (dec_lt ((view ns).sz b.idx) ((view ns).sz a.idx)) (Seen.out (Seen.join (view ns) a b ka) Success) (Seen.out (Seen.join (view ns) b a kb) Success))
  unfolding merge view
  merge_sim sa sb ka kb ea eb = go (dec_lt (size_of (at ns b.idx)) (size_of (at ns a.idx)))
    where
      go : (d : Dec (size_of (at ns b.idx) < size_of (at ns a.idx)))
          → Sim ns (out (pick (ltb (size_of (at ns b.idx)) (size_of (at ns a.idx))) (join ns a b sa) (join ns b a sb)) Success)
          (sel d (Seen.out (Seen.join (view ns) a b ka) Success) (Seen.out (Seen.join (view ns) b a kb) Success))
      go (yes d) = rw (lt-ltb (size_of (at ns b.idx)) (size_of (at ns a.idx)) d, ← ea)
          (join_sim ns a b sa ok (roots_of a b ok ha hb apart atop btop) (omega arith))
      go (no d) = rw (le-ltb (size_of (at ns b.idx)) (size_of (at ns a.idx)) (omega arith), ← eb)
          (join_sim ns b a sb ok (roots_of b a ok hb ha (λ q. apart (sym q)) btop atop) (omega arith))

  bound_sim : Sim ns (out (bound ns a b) Success)
      (sel (dec_lt ((view ns).sz b.idx) ((view ns).sz a.idx))
      (Seen.out (Seen.join (view ns) a b (Seen.kept (view ns) a a b)) Success)
      (Seen.out (Seen.join (view ns) b a (Seen.kept (view ns) b a b)) Success))
  unfolding view
  bound_sim = merge_sim (kept ns a (kind_in ns a) (kind_in ns b)) (kept ns b (kind_in ns a) (kind_in ns b)) (Seen.kept (view ns) a a b) (Seen.kept (view ns) b a b)
      (kept_seen ns a a b (state_in ns a) (state_in ns b) (λ p q. p)) (kept_seen ns b a b (state_in ns a) (state_in ns b) (λ p q. q))

  bind_by : (n : ℕ) (o : Bool) → Sim ns (pick o (out ns Failure) (out (bound ns a b) Success)) (Seen.bind n (view ns) a b o)
  bind_by n true = sim_same ok refl
  bind_by n false = bound_sim

  bind_sim : (n : ℕ)
      → Sim ns (bind n ns a b) (Seen.bind n (view ns) a b (Seen.occurs n (view ns) a.idx b.idx || Seen.occurs n (view ns) b.idx a.idx))
  unfolding bind
  bind_sim n = rw (← occurs_view n ns a.idx b.idx, ← occurs_view n ns b.idx a.idx)
      (bind_by n (occurs n ns a.idx b.idx || occurs n ns b.idx a.idx))

  settle_sim : (r : Answer) → Sim ns (settle ns a b r) (Seen.close (view ns) a b r)
  unfolding settle view
  settle_sim Failure = sim_same ok refl
  settle_sim Indeterminate = sim_same ok refl
  settle_sim Success = merge_sim (state_in ns a) (state_in ns b) (seen (state_in ns a)) (seen (state_in ns b)) refl refl

-- what `unify` on views keeps, at every depth f: n is the node count, and Ok an invariant of views
pub record Keeps (x : Texts) (n : ℕ) (Ok : View → Type 0) : Type 0 where
  pub kids : (g : View) → Ok g → (a : ℕ) (i : Bool) (k : Kind) → g.st a ≡ known i k → (t : Ty) → Memᴰ t k.kids → t.idx < n
  pub step : (f : ℕ) (g : View) (p q : Ty) → Ok g → p.idx < n → q.idx < n → Ok (Seen.unify x n f g p q).view
  pub tops : (f : ℕ) (g : View) (a b : Ty) (i j : Bool) (k m : Kind) → Ok g → a.idx < n → b.idx < n → a.idx ≢ b.idx
      → g.rep a.idx ≡ ty false a.idx → g.rep b.idx ≡ ty false b.idx → g.st a.idx ≡ known i k → g.st b.idx ≡ known j m
      → let l : Plan = plan x k m (xor (xor i a.inv) (xor j b.inv)) in
      let h : View = (Seen.run (Seen.unify x n f) g l.base l.pairs).view in (h.rep a.idx ≡ ty false a.idx) × (h.rep b.idx ≡ ty false b.idx)

abbrev pub SimStep : ℕ → (View → Type 0) → (List Node → Ty → Ty → Out) → (View → Ty → Ty → Seen.Out) → Type 0
SimStep n Ok u U = (ns : List Node) (p q : Ty) → Forest ns → length ns ≡ n → Ok (view ns) → p.idx < n → q.idx < n → Sim ns (u ns p q) (U (view ns) p q)

-- pairs of nodes below n
abbrev pub Inside : ℕ → List (Ty × Ty) → Type 0
Inside n ps = (p : Ty × Ty) → Memᴰ p ps → (p.0.idx < n) × (p.1.idx < n)

module _ (n : ℕ) (Ok : View → Type 0) (u : List Node → Ty → Ty → Out) (U : View → Ty → Ty → Seen.Out)
    (keep : (g : View) (p q : Ty) → Ok g → p.idx < n → q.idx < n → Ok (U g p q).view) (ih : SimStep n Ok u U) where
  pub run_keeps : (g : View) (r : Answer) (ps : List (Ty × Ty)) → Ok g → Inside n ps → Ok (Seen.run U g r ps).view
  unfolding Seen.run
  run_keeps g r [] ok i = ok
  run_keeps g r (p ∷ ps) ok i =
      let h = i p (Memᴰ.head refl) in
      run_keeps (U g p.0 p.1).view (both r (U g p.0 p.1).answer) ps (keep g p.0 p.1 ok h.0 h.1) (λ q m. i q (Memᴰ.tail m))

  pub run_sim : (ns : List Node) (r : Answer) (ps : List (Ty × Ty)) → Forest ns → length ns ≡ n → Ok (view ns) → Inside n ps → Sim ns (run u ns r ps) (Seen.run U (view ns) r ps)
  unfolding run Seen.run
  run_sim ns r [] ok le v i = sim_same ok refl
  run_sim ns r (p ∷ ps) ok le v i =
      let h = i p (Memᴰ.head refl) in
      go (ih ns p.0 p.1 ok le v h.0 h.1)
      (λ ok' le' v'. run_sim (u ns p.0 p.1).nodes (both r (u ns p.0 p.1).answer) ps ok' le' v' (λ q m. i q (Memᴰ.tail m)))
      (keep (view ns) p.0 p.1 v h.0 h.1)
    where
      o : Out
      o = u ns p.0 p.1

      w : Seen.Out
      w = U (view ns) p.0 p.1

      go : Sim ns o w
          → (Forest o.nodes → length o.nodes ≡ n → Ok (view o.nodes)
          → Sim o.nodes (run u o.nodes (both r o.answer) ps) (Seen.run U (view o.nodes) (both r o.answer) ps))
          → Ok w.view → Sim ns (run u o.nodes (both r o.answer) ps) (Seen.run U w.view (both r w.answer) ps)
      go m k kept =
          sim_to (ap₂ (λ (g : View) (z : Answer). Seen.run U g (both r z) ps) m.views m.answers)
          (sim_then m.len m.shallow (λ s. subst (λ (k : ℕ). Sized k (view o.nodes)) (sym m.len) (subst (Sized (length ns)) (sym m.views) (m.sized s)))
          (k m.forest (m.len ∙ le) (subst Ok (sym m.views) kept)))

module _ (x : Texts) (n : ℕ) (Ok : View → Type 0) (keeps : Keeps x n Ok) where
  plan_inside : (g : View) → Ok g → (a b : ℕ) (i j c : Bool) (k m : Kind) → g.st a ≡ known i k → g.st b ≡ known j m → Inside n (plan x k m c).pairs
  plan_inside g v a b i j c k m p q (s, t) w =
      let y = plan_right x k m c (s, t) w in (
        keeps.kids g v a i k p s (plan_left x k m c (s, t) w),
        rw y.2 (keeps.kids g v b j m q y.0 y.1),
      )

  module _ (f : ℕ) (ih : SimStep n Ok (unify_f x n f) (Seen.unify x n f)) where
    module _ (ns : List Node) (a b : Ty) (ok : Forest ns) (le : length ns ≡ n) (v : Ok (view ns)) (ha : a.idx < length ns) (hb : b.idx < length ns)
        (atop : (view ns).rep a.idx ≡ ty false a.idx) (btop : (view ns).rep b.idx ≡ ty false b.idx) where
      known_sim : a.idx ≢ b.idx → (i j : Bool) (k m : Kind) → (view ns).st a.idx ≡ known i k → (view ns).st b.idx ≡ known j m
          → Sim ns (meet_kinds (unify_f x n f) x n ns a b (some (xor i a.inv, k)) (some (xor j b.inv, m))) (Seen.meet_st (Seen.unify x n f) x n (view ns) a b (known i k) (known j m))
      known_sim ne i j k m p q =
          sim_to (ap₂ (λ (g : View) (y : Answer). Seen.close g a b y) r.views r.answers)
          (sim_then r.len r.shallow (λ s. subst (λ (k : ℕ). Sized k (view o.nodes)) (sym r.len) (subst (Sized (length ns)) (sym r.views) (r.sized s)))
          (settle_sim o.nodes a b r.forest (subst (λ (y : ℕ). a.idx < y) (sym r.len) ha) (subst (λ (y : ℕ). b.idx < y) (sym r.len) hb) ne
          (ap (λ (g : View). g.rep a.idx) r.views ∙ t.0) (ap (λ (g : View). g.rep b.idx) r.views ∙ t.1) o.answer))
        where
          c : Bool
          c = xor (xor i a.inv) (xor j b.inv)

          l : Plan
          l = plan x k m c

          o : Out
          o = run (unify_f x n f) ns l.base l.pairs

          r : Sim ns o (Seen.run (Seen.unify x n f) (view ns) l.base l.pairs)
          r = run_sim n Ok (unify_f x n f) (Seen.unify x n f) (keeps.step f) ih ns l.base l.pairs ok le v
              (plan_inside (view ns) v a.idx b.idx i j c k m p q)

          h : View
          h = (Seen.run (Seen.unify x n f) (view ns) l.base l.pairs).view

          t : (h.rep a.idx ≡ ty false a.idx) × (h.rep b.idx ≡ ty false b.idx)
          t = keeps.tops f (view ns) a b i j k m v (subst (λ (y : ℕ). a.idx < y) le ha) (subst (λ (y : ℕ). b.idx < y) le hb) ne atop btop p q

      states_sim : a.idx ≢ b.idx → (sa sb : State) → (view ns).st a.idx ≡ seen sa → (view ns).st b.idx ≡ seen sb
          → Sim ns (meet_kinds (unify_f x n f) x n ns a b (kind_of a sa) (kind_of b sb)) (Seen.meet_st (Seen.unify x n f) x n (view ns) a b (seen sa) (seen sb))
      states_sim ne (Unknown s) sb p q = bind_sim ns a b ok ha hb ne atop btop n
      states_sim ne InferenceFailed sb p q = bind_sim ns a b ok ha hb ne atop btop n
      states_sim ne (Known i k) (Unknown s) p q = bind_sim ns a b ok ha hb ne atop btop n
      states_sim ne (Known i k) InferenceFailed p q = bind_sim ns a b ok ha hb ne atop btop n
      states_sim ne (Known i k) (Known j m) p q = known_sim ne i j k m p q

      meet_sim : Sim ns (meet (unify_f x n f) x n ns a b) (Seen.meet (Seen.unify x n f) x n (view ns) a b)
      unfolding meet Seen.meet view
      meet_sim = go (ℕ_discrete a.idx b.idx)
        where
          S : Out
          S = meet_kinds (unify_f x n f) x n ns a b (kind_in ns a) (kind_in ns b)

          go : (d : Dec (a.idx ≡ b.idx)) → Sim ns (pick (eqb a.idx b.idx) (out ns (same_node n ns a b)) S)
              (sel d (Seen.out (view ns) (of_bool (Seen.same n (view ns) a b))) (Seen.meet_st (Seen.unify x n f) x n (view ns) a b (seen (state_in ns a)) (seen (state_in ns b))))
          go (yes e) = rw (eq-eqb a.idx b.idx e)
              (sim_same ok (ap (λ (t : Bool). of_bool (not (xor a.inv b.inv) || t)) (self_inverse_view false n ns a.idx)))
          go (no e) = rw (ne_eqb a.idx b.idx e) (states_sim e (state_in ns a) (state_in ns b) refl refl)

    -- both finds first: the view stays, and the roots are the view's
    pub both_sim : SimStep n Ok (unify_f x n (suc f)) (Seen.unify x n (suc f))
    unfolding unify_f Seen.unify
    both_sim ns p q ok le v hp hq =
        sim_to (ap (λ (g : View). Seen.meet (Seen.unify x n f) x n g (find ns p) (find ns₁ q)) same₂ ∙ ap₂ (λ (s t : Ty). Seen.meet (Seen.unify x n f) x n (view ns) s t) at_a at_b)
        (sim_then (t₂.len ∙ t₁.len) (λ s. tidied_shallow t₂ (tidied_shallow t₁ s))
        (λ s. subst (λ (g : View). Sized (length ns₂) g) (sym same₂) (subst (λ (k : ℕ). Sized k (view ns)) (sym (t₂.len ∙ t₁.len)) s))
        (meet_sim ns₂ (find ns p) (find ns₁ q) ok₂ (t₂.len ∙ t₁.len ∙ le) (subst Ok (sym same₂) v) in_a in_b
        (top_of (find ns p) p at_a) (top_of (find ns₁ q) q at_b)))
      where
        ns₁ : List Node
        ns₁ = find_mut ns p

        ns₂ : List Node
        ns₂ = find_mut (find_mut ns p) q

        t₁ : Tidied ns ns₁
        t₁ = find_mut_tidied ok p

        ok₁ : Forest ns₁
        ok₁ = tidied_forest t₁ ok

        t₂ : Tidied ns₁ ns₂
        t₂ = find_mut_tidied ok₁ q

        ok₂ : Forest ns₂
        ok₂ = tidied_forest t₂ ok₁

        same₁ : view ns₁ ≡ view ns
        same₁ = tidied_view t₁ ok

        same₂ : view ns₂ ≡ view ns
        same₂ = tidied_view t₂ ok₁ ∙ same₁

        at_a : find ns p ≡ root_of (view ns) p
        at_a = find_root ns p

        at_b : find ns₁ q ≡ root_of (view ns) q
        at_b = find_root ns₁ q ∙ ap (λ (g : View). root_of g q) same₁

        in_a : (find ns p).idx < length ns₂
        in_a = rw (t₂.len, t₁.len) (find_inside ok p (rw le hp))

        in_b : (find ns₁ q).idx < length ns₂
        in_b = rw t₂.len (find_inside ok₁ q (rw (t₁.len, le) hq))

        top_of : (s t : Ty) → s ≡ root_of (view ns) t → (view ns₂).rep s.idx ≡ ty false s.idx
        top_of s t e = rw (same₂, e) (rep_idem ok t.idx)

  pub unify_sim : (f : ℕ) → SimStep n Ok (unify_f x n f) (Seen.unify x n f)
  unfolding unify_f Seen.unify
  unify_sim zero ns p q ok le v hp hq = sim_same ok refl
  unify_sim (suc f) ns p q ok le v hp hq = both_sim f (unify_sim f) ns p q ok le v hp hq

  -- the call, its depth falling from the node count
  pub unify_call : SimStep n Ok (unify x) (Seen.unify x n n)
  unfolding unify
  unify_call ns p q ok le v hp hq =
      subst (λ (k : ℕ). Sim ns (unify_f x k k ns p q) (Seen.unify x n n (view ns) p q)) (sym le) (unify_sim n ns p q ok le v hp hq)
