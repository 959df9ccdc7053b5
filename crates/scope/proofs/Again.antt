-- A pair that once got Success is joined, stays joined under every call of the second half, and so gets Success again. Assumes nothing.
use mathlib.Core.Path.{◌≡◌, refl, sym, ap, subst, ◌∙◌}
use mathlib.Core.List.{List, [], ◌∷◌, ◌++◌, Memᴰ}
use mathlib.Core.Bool.{Bool, true, false, not}
use mathlib.Core.Option.{some}
use Prim.Native.Nat.{ℕ, zero, suc, ◌≤◌, ◌<◌}
use native.Mathlib.Omega.{arith}
use lib.ListN.{length}
use borrow.Author.Tests.{lt-ltb, not-false}
use Rattle.scope.specs.Chart.{Env, chart_ok}
use Rattle.scope.specs.Types.{Ty}
use Rattle.scope.specs.Nodes.{Store}
use Rattle.scope.specs.Answers.{Answer, Success}
use Rattle.scope.specs.Unify.{Out, unify}
use Rattle.scope.specs.Sound.{reads}
use Rattle.scope.specs.Calls.{Outcome, lent_tests, outside, unified, unify_call}
use Rattle.scope.specs.Demand.{Call, given, step, next, after}
use Rattle.scope.specs.Demand as Demand
use Rattle.scope.proofs.View.{View, view}
use Rattle.scope.proofs.View as Seen
use Rattle.scope.proofs.Grow.{Joined, joined_grow}
use Rattle.scope.proofs.Meet.{unify_spec}
use Rattle.scope.proofs.Self.{joined_answer}
use Rattle.scope.proofs.SoundLaws.{facts_sound}
use Rattle.scope.proofs.Steps.{judged_cases, all_inside}
use Rattle.scope.proofs.UnifyKept.{stable_kinds, nodes_stable, unify_seen}
use Rattle.scope.proofs.Reached.{Reached, next_reached, after_reached}
use Rattle.scope.proofs.GrowCalls.{after_grow}
use Rattle.scope.proofs.NodesMade.{after_length}

-- the tests of a unify of a and b
abbrev tests : Env → Store → Ty → Ty → List (Bool × ℕ)
tests e s a b = lent_tests e (reads s) ++ (outside s (a ∷ b ∷ []) ∷ [])

-- what a Success says: the chart is sound, the two types are in the store, and the store left has joined them
pub record Won (e : Env) (s : Store) (a b : Ty) (o : Outcome Answer) : Type 0 where
  pub chart : chart_ok e ≡ true
  pub a_in : a.idx < length s.nodes
  pub b_in : b.idx < length s.nodes
  pub joined : Joined (view (step s o).store.nodes) a b

module _ (e : Env) (s : Store) (a b : Ty) (reached : Reached e s) where
  success_joined : a.idx < length s.nodes → b.idx < length s.nodes → (unify e.texts s.nodes a b).answer ≡ Success
      → Joined (view (unify e.texts s.nodes a b).nodes) a b
  success_joined ha hb q =
      let ok = reached.facts.nodes in
      let m = unify_seen e ok a b ha hb in
      subst (λ (g : View). Joined g a b) (sym m.views)
      ((unify_spec e (length s.nodes) (length s.nodes) (view s.nodes) a b ok.good (stable_kinds (nodes_stable e ok))).joined (sym m.answers ∙ q))

  pub success_won : given (unify_call e (reads s) a b) ≡ some Success → Won e s a b (unify_call e (reads s) a b)
  unfolding unify_call
  success_won = judged_cases (λ o. given o ≡ some Success → Won e s a b o) (tests e s a b) (unified s (unify e.texts s.nodes a b))
      (λ n q. let z : ◌≡◌ {A = ℕ} 0 1 = cc in absurd (omega arith))
      (λ p q. won p.0 (all_inside s.nodes (a ∷ b ∷ []) p.1.1.0) q)
    where
      won : not (chart_ok e) ≡ false → ((t : Ty) → Memᴰ t (a ∷ b ∷ []) → t.idx < length s.nodes) → some (unify e.texts s.nodes a b).answer ≡ some Success
          → Won e s a b (unified s (unify e.texts s.nodes a b))
      won c h q =
          let ha = h a (Memᴰ.head refl) in
          let hb = h b (Memᴰ.tail (Memᴰ.head refl)) in
          record { chart = not-false (chart_ok e) c; a_in = ha; b_in = hb; joined = success_joined ha hb cc }

  -- the answer of a joined pair
  joined_answers : a.idx < length s.nodes → b.idx < length s.nodes → Joined (view s.nodes) a b
      → (unify e.texts s.nodes a b).answer ≡ Success
  joined_answers ha hb j = go (length s.nodes) refl
    where
      go : (f : ℕ) → length s.nodes ≡ f → (unify e.texts s.nodes a b).answer ≡ Success
      go zero q = absurd (omega arith)
      go (suc f) q =
          let ok = reached.facts.nodes in
          let st = nodes_stable e ok in
          (unify_seen e ok a b ha hb).answers
          ∙ ap (λ (k : ℕ). (Seen.unify e.texts (length s.nodes) k (view s.nodes) a b).answer) q
          ∙ ap (λ (o : Seen.Out). o.answer) (joined_answer e.texts (length s.nodes) f (view s.nodes) a b ok.good st.inside ha j)

  -- and of a call on it
  pub joined_success : chart_ok e ≡ true → a.idx < length s.nodes → b.idx < length s.nodes → Joined (view s.nodes) a b
      → given (unify_call e (reads s) a b) ≡ some Success
  unfolding unify_call
  joined_success chart ha hb j =
      rw (chart, facts_sound e s reached.facts, lt-ltb a.idx (length s.nodes) ha, lt-ltb b.idx (length s.nodes) hb) (ap some (joined_answers ha hb j))

-- lists of calls, one behind the other
after_append : (e : Env) (s : Store) (cs ds : List Call) → after e s (cs ++ ds) ≡ after e (after e s cs) ds
unfolding after
after_append e s [] ds = refl
after_append e s (c ∷ cs) ds = after_append e (next e s c) cs ds

-- a pair that once got Success gets it again
pub success_again : (e : Env) (s : Store) → Reached e s → (cs before later : List Call) (a b : Ty)
    → cs ≡ before ++ (Demand.unify a b ∷ later)
    → given (unify_call e (reads (after e s before)) a b) ≡ some Success
    → given (unify_call e (reads (after e s cs)) a b) ≡ some Success
unfolding after
success_again e s r cs before later a b q w =
    subst (λ (x : Store). given (unify_call e (reads x) a b) ≡ some Success) (sym (ap (after e s) q ∙ after_append e s before (Demand.unify a b ∷ later)))
    (joined_success e end a b (after_reached e s₂ later r₂) won.chart (omega (arith, won.a_in, more)) (omega (arith, won.b_in, more))
    (joined_grow r₂.facts.nodes.good (after_grow e s₂ later r₂) won.joined))
  where
    s₁ : Store
    s₁ = after e s before

    r₁ : Reached e s₁
    r₁ = after_reached e s before r

    s₂ : Store
    s₂ = next e s₁ (Demand.unify a b)

    r₂ : Reached e s₂
    r₂ = next_reached e s₁ (Demand.unify a b) r₁

    end : Store
    end = after e s₂ later

    won : Won e s₁ a b (unify_call e (reads s₁) a b)
    won = success_won e s₁ a b r₁ w

    more : length s₁.nodes ≤ length end.nodes
    more = omega (arith, after_length e s₁ (Demand.unify a b ∷ later) r₁)
