-- Demand 3's first half. One call: the trees that fit the next store are those that fit this one and what the call asks, if a unify answered Success;
-- whatever it answered, those that fit and are asked go on fitting. No call makes a Default but a maker or an import. Assumes nothing.
use mathlib.Core.Path.{◌≡◌, refl, sym, subst, ◌∙◌}
use mathlib.Core.List.{List, [], ◌∷◌, ◌++◌}
use mathlib.Core.Bool.{Bool, true, false}
use mathlib.Core.Option.{Option, some}
use mathlib.Core.Logic.{◌↔◌}
use Prim.Native.Nat.{ℕ, ◌≤◌, ◌<◌}
use native.Mathlib.Omega.{arith}
use lib.ListN.{length}
use Rattle.scope.specs.Chart.{Env}
use Rattle.scope.specs.Types.{Ty, ty}
use Rattle.scope.specs.Nodes.{State, Known, Unknown, InferenceFailed, Node, Store, opened, at, state_of, is_known, find}
use Rattle.scope.specs.Answers.{Answer, Success, Failure}
use Rattle.scope.specs.Unify as Unify
use Rattle.scope.specs.Sound.{Lent, reads}
use Rattle.scope.specs.Calls.{unify_call}
use Rattle.scope.specs.Trees.{Val, NodeFits, Fits, PairFits}
use Rattle.scope.specs.Demand.{Maker, Read, Call, make, import, force_kind, unify, read, later, step, given, next, after, in_first_half}
use Rattle.scope.specs.Demand.{Each, StatesFit, states_made, Asks, Asked, Answers, EveryAnswer, SelfInverseNode, FirstHalfHolds}
use Rattle.scope.proofs.View.{unknown, seen, view}
use Rattle.scope.proofs.ViewFits as Seen
use Rattle.scope.proofs.ViewLaws.{not_known}
use Rattle.scope.proofs.Paths.{find_mut_tidied, tidied_forest, tidied_view}
use Rattle.scope.proofs.Added.{fits_added}
use Rattle.scope.proofs.Inside.{Inside}
use Rattle.scope.proofs.Sol.{unify_sol, success_fits}
use Rattle.scope.proofs.Fail.{Plain, Witness, failure_means}
use Rattle.scope.proofs.UnifyKept.{nodes_stable, stable_kinds, unify_seen}
use Rattle.scope.proofs.SoundKept.{force_kept, force_view}
use Rattle.scope.proofs.Steps.{maker_cases, import_cases, force_cases, unify_cases, read_cases}
use Rattle.scope.proofs.NodesFit.{fits_seen, seen_fits, fits_same, end_fits, pushes_fit}
use Rattle.scope.proofs.NoDefaults.{Defaultless, after_less}
use Rattle.scope.proofs.Reached.{Reached, opened_reached, next_reached, after_reached}

both_units : {A B : Type 0} → (A ↔ B) → A ↔ (B × Unit {0})
both_units f = ((λ x. (f.0 x, tt)), (λ x. f.1 x.0))

-- a call that was not made asks nothing
not_taken : {A B : Type 0} → A ↔ (A × (false ≡ true → B))
not_taken = ((λ x. (x, λ q. let z : ◌≡◌ {A = ℕ} 0 1 = cc in absurd (omega arith))), (λ x. x.0))

taken : {A B C : Type 0} → (A ↔ (B × C)) → A ↔ (B × (true ≡ true → C))
taken f = ((λ x. let y = f.0 x in (y.0, λ q. y.1)), (λ x. f.1 (x.0, x.1 refl)))

module _ (e : Env) (s : Store) (r : Reached e s) (v : Val) where
  -- trees that fit the view go through a unify
  module _ (a b : Ty) (ha : a.idx < length s.nodes) (hb : b.idx < length s.nodes) where
    unify_fits : (Unify.unify e.texts s.nodes a b).answer ≡ Success
        → Fits e v (Unify.unify e.texts s.nodes a b).nodes ↔ (Fits e v s.nodes × PairFits e v a b)
    unify_fits q =
        let m = unify_seen e r.facts.nodes a b ha hb in
        let f = success_fits e (length s.nodes) (length s.nodes) (view s.nodes) a b r.facts.nodes.good
        (stable_kinds (nodes_stable e r.facts.nodes)) (sym m.answers ∙ q) v in (
          (λ x. let y = f.0 (subst (Seen.Fits e v) m.views (fits_seen e v m.forest x)) in (seen_fits e v r.facts.nodes.forest y.0, y.1)),
          (λ x. seen_fits e v m.forest (subst (Seen.Fits e v) (sym m.views) (f.1 (fits_seen e v r.facts.nodes.forest x.0, x.1)))),
        )

    -- whatever the answer
    unify_keeps : Fits e v s.nodes → PairFits e v a b → Fits e v (Unify.unify e.texts s.nodes a b).nodes
    unify_keeps f q =
        let m = unify_seen e r.facts.nodes a b ha hb in
        seen_fits e v m.forest (subst (Seen.Fits e v) (sym m.views)
        ((unify_sol e (length s.nodes) (length s.nodes) (view s.nodes) a b r.facts.nodes.good
        (stable_kinds (nodes_stable e r.facts.nodes))).fwd v (fits_seen e v r.facts.nodes.forest f) q))

  make_next : (m : Maker) → Fits e v (next e s (make m)).nodes ↔ (Fits e v s.nodes × Asks e v s (make m))
  make_next m = maker_cases e s r.facts
      (λ t. Fits e v t.store.nodes ↔ (Fits e v s.nodes × (t.taken ≡ true → StatesFit e v (length s.nodes) (states_made e s m)))) m not_taken
      (λ s' k. taken (subst (λ (ns : List Node). Fits e v ns ↔ (Fits e v s.nodes × StatesFit e v (length s.nodes) (states_made e s m))) (sym k.nodes)
      (pushes_fit e v s.nodes (states_made e s m))))

  import_next : (l : Lent) (ts : List Ty) (ps : Option (List Ty)) (h : ℕ)
      → Fits e v (next e s (import l ts ps h)).nodes ↔ (Fits e v s.nodes × Asks e v s (import l ts ps h))
  import_next l ts ps h = import_cases e s r.facts
      (λ t. Fits e v t.store.nodes ↔ (Fits e v s.nodes × ((n : ℕ) → length s.nodes ≤ n → NodeFits e v n (at t.store.nodes n)))) l ts ps h
      ((λ f. (f, end_fits e v s.nodes)), (λ f. f.0))
      (λ k. fits_added e v s.nodes _ k.leaves.ext)

  force_next : (t : Ty) → Fits e v (next e s (force_kind t)).nodes ↔ Fits e v s.nodes
  force_next t = force_cases e s r.facts (λ u. Fits e v u.store.nodes ↔ Fits e v s.nodes) t ((λ f. f), (λ f. f))
      (λ h. fits_same e v r.facts.nodes.forest (force_kept e s t r.facts h).facts.nodes.forest (force_view e s t r.facts.nodes.forest h))

  read_next : (q : Read) → Fits e v (next e s (read q)).nodes ↔ Fits e v s.nodes
  read_next q = read_cases e s r.facts (λ u. Fits e v u.store.nodes ↔ Fits e v s.nodes) q ((λ f. f), (λ f. f)) ((λ f. f), (λ f. f))
      (λ t. let d = find_mut_tidied r.facts.nodes.forest t in
      fits_same e v r.facts.nodes.forest (tidied_forest d r.facts.nodes.forest) (tidied_view d r.facts.nodes.forest))

  unify_next : (a b : Ty) → Answers (λ x. x ≡ Success) e s (unify a b)
      → Fits e v (next e s (unify a b)).nodes ↔ (Fits e v s.nodes × Asks e v s (unify a b))
  unify_next a b = unify_cases e s r.facts
      (λ o. ((x : Answer) → given o ≡ some x → x ≡ Success)
      → Fits e v (step s o).store.nodes ↔ (Fits e v s.nodes × ((step s o).taken ≡ true → PairFits e v a b)))
      a b (λ n q. not_taken) (λ ha hb q. taken (unify_fits a b ha hb (q _ refl)))

  fits_next : (c : Call) → in_first_half c ≡ true → Answers (λ x. x ≡ Success) e s c → Fits e v (next e s c).nodes ↔ (Fits e v s.nodes × Asks e v s c)
  fits_next (make m) q a = make_next m
  fits_next (import l ts ps h) q a = import_next l ts ps h
  fits_next (force_kind t) q a = both_units (force_next t)
  fits_next (unify x y) q a = unify_next x y a
  fits_next (read x) q a = both_units (read_next x)
  fits_next (later x) q a = let z : ◌≡◌ {A = ℕ} 0 1 = cc in absurd (omega arith)

  -- whatever a unify answered
  keeps_next : (c : Call) → in_first_half c ≡ true → Fits e v s.nodes → Asks e v s c → Fits e v (next e s c).nodes
  keeps_next (make m) q f a = (make_next m).1 (f, a)
  keeps_next (import l ts ps h) q f a = (import_next l ts ps h).1 (f, a)
  keeps_next (force_kind t) q f a = (force_next t).1 f
  keeps_next (unify x y) q f a = unify_cases e s r.facts (λ o. ((step s o).taken ≡ true → PairFits e v x y) → Fits e v (step s o).store.nodes) x y
      (λ n a. f) (λ hx hy a. unify_keeps x y hx hy f (a refl)) a
  keeps_next (read x) q f a = (read_next x).1 f
  keeps_next (later x) q f a = let z : ◌≡◌ {A = ℕ} 0 1 = cc in absurd (omega arith)

-- a list
fits_after : (e : Env) (v : Val) (s : Store) (cs : List Call) → Reached e s → Each in_first_half cs → EveryAnswer (λ x. x ≡ Success) e s cs
    → Fits e v (after e s cs).nodes ↔ (Fits e v s.nodes × Asked e v s cs)
unfolding after Each EveryAnswer Asked
fits_after e v s [] r p a = ((λ f. (f, tt)), (λ f. f.0))
fits_after e v s (c ∷ cs) r p a =
    let f = fits_next e s r v c p.0 a.0 in
    let g = fits_after e v (next e s c) cs (next_reached e s c r) p.1 a.1 in (
      (λ x. let y = g.0 x in let z = f.0 y.0 in (z.0, (z.1, y.1))),
      (λ x. g.1 (f.1 (x.0, x.1.0), x.1.1)),
    )

keeps_after : (e : Env) (v : Val) (s : Store) (cs : List Call) → Reached e s → Each in_first_half cs → Fits e v s.nodes → Asked e v s cs
    → Fits e v (after e s cs).nodes
unfolding after Each Asked
keeps_after e v s [] r p f a = f
keeps_after e v s (c ∷ cs) r p f a = keeps_after e v (next e s c) cs (next_reached e s c r) p.1 (keeps_next e s r v c p.0 f a.0) a.1

each_front : (p : Call → Bool) (cs ds : List Call) → Each p (cs ++ ds) → Each p cs
unfolding Each
each_front p [] ds h = tt
each_front p (c ∷ cs) ds h = (h.0, each_front p cs ds h.1)

-- a Failure on a store that trees fit, without a Default
fails : (e : Env) (s : Store) → Reached e s → Defaultless (view s.nodes) → (a b : Ty) → given (unify_call e (reads s) a b) ≡ some Failure
    → (v : Val) → Fits e v s.nodes → PairFits e v a b → SelfInverseNode e v s.nodes
unfolding view
fails e s r d a b q v f p = unify_cases e s r.facts (λ o. given o ≡ some Failure → SelfInverseNode e v s.nodes) a b
    (λ n q. let z : ◌≡◌ {A = ℕ} 0 1 = cc in absurd (omega arith)) (λ ha hb q. found (witness ha hb q)) q
  where
    ns : List Node
    ns = s.nodes

    plain : Inside (length ns) (Plain e) (view ns)
    plain = record {
      inside = (nodes_stable e r.facts.nodes).inside.inside;
      kinds = λ a i k q. let z = r.facts.nodes.kinds a i k q in record { kids = z.kids; made = record { make = z.made; no_default = d a i k q } };
    }

    same : {x y : Answer} → some x ≡ some y → x ≡ y
    same {x} {y} q = cc

    witness : a.idx < length ns → b.idx < length ns → some (Unify.unify e.texts ns a b).answer ≡ some Failure → Witness e (length ns) (view ns) v
    witness ha hb q = failure_means e (length ns) (view ns) a b r.facts.nodes.good plain ha hb
        (sym (unify_seen e r.facts.nodes a b ha hb).answers ∙ same q) v (fits_seen e v r.facts.nodes.forest f) p

    unknown_state : (st : State) → seen st ≡ unknown → is_known st ≡ false
    unknown_state (Known i k) q = absurd (not_known (sym q))
    unknown_state (Unknown p) q = refl
    unknown_state InferenceFailed q = refl

    found : Witness e (length ns) (view ns) v → SelfInverseNode e v ns
    found w = record {
      node = w.node;
      made = w.below;
      no_kind = unknown_state (state_of (at ns (find ns (ty false w.node)).idx)) w.no_kind;
      own_inverse = w.own_inverse;
    }

-- "First half": of every list from a store just opened
pub first_half : FirstHalfHolds
unfolding view
first_half e n c hn hc cs p = record {
  success = λ a v pr.
      let f = fits_after e v (opened n c) cs start p a in
      ((λ x. (f.0 x).1), (λ x. f.1 (none_fit v, x)));
  failure = λ before rest a b q ans d g v pr asked pair.
      let p' : Each in_first_half before = each_front in_first_half before (unify a b ∷ rest) (subst (Each in_first_half) q p) in
      fails e (after e (opened n c) before) (after_reached e (opened n c) before start) (after_less e (opened n c) before start p' d no_default) a b g v
      (keeps_after e v (opened n c) before start p' (none_fit v) asked) pair;
}
  where
    start : Reached e (opened n c)
    start = opened_reached e n c hn hc

    none_fit : (v : Val) → Fits e v (opened n c).nodes
    none_fit v n = tt

    no_default : Defaultless (view (opened n c).nodes)
    no_default a i k q = absurd (not_known q)
