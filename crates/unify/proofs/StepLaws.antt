-- What two roots ask for: an answer, a run or two objects. What unifying these asks, what settling asks after it, and the way out of `unify_pair`.
-- Assumes nothing.
use mathlib.Core.Path.{◌≡◌, refl, ap, sym, subst, ◌∙◌}
use mathlib.Core.List.{List}
use Prim.Native.Nat.{ℕ, ◌-◌}
use Rattle.scope.specs.Names.{Texts}
use Rattle.scope.specs.Types.{Ty, ty_of}
use Rattle.scope.specs.Answers.{both}
use Rattle.scope.specs.Unify.{Out, out, run, unify_f}
use Rattle.types.specs.Answers.{answer_of}
use Rattle.types.specs.declared.UnifyResult.{UnifyResult}
use Rattle.layout.specs.Words.{decode}
use Rattle.heed.specs.Told.{Settles, SettledTold}
use Rattle.heed.proofs.Laws.{since_same}
use Rattle.plan.specs.Meaning.{plan_means}
use Rattle.plan.specs.declared.Runs.{Runs}
use Rattle.plan.specs.declared.Plan.TheVariants as plans
use Rattle.meeting.specs.Steps.{steps_mean, StepsReady, RunsLie, Ascends}
use Rattle.meeting.specs.Meets.{does}
use Rattle.meeting.specs.declared.Steps.{Steps}
use Rattle.meeting.specs.declared.Steps.TheVariants as steps
use Rattle.unify.specs.Asked.{Asked, Unified}
use Rattle.unify_enter.specs.Enters.{Left}
use Rattle.unify.proofs.Laws.{kids_asks, kids_settles, way_kids}
use Rattle.unify.proofs.RunLaws.{run_base}

-- steps are what they ask for

module _ {x : Texts} {ws ks m : List ℕ} {n : ℕ} (d : ℕ) {k : Steps} where
  steps_answer : {r : UnifyResult} → Asked x ws ks m n d (steps_mean ks x k).pairs → k ≡ steps.Answer r → Unified x ws ks m ws m n (does (unify_f x n d) (decode ws ks n) (steps_mean ks x k)) r
  unfolding run
  steps_answer w e = record { leaves = record { same = rw e refl; clean = λ c cl. cl; tail = refl }; recalls = w.recalls; since = since_same }

  module _ {q : UnifyResult} {s : Runs} (e : k ≡ steps.Run q s) where
    steps_runs : Asked x ws ks m n d (steps_mean ks x k).pairs × StepsReady x ks k → Asked x ws ks m n d (plan_means ks x (plans.Run s)).pairs × RunsLie ks s
    steps_runs w = subst (λ (z : Steps). Asked x ws ks m n d (steps_mean ks x z).pairs × StepsReady x ks z) e w

    steps_run : {ws' m' : List ℕ} {r v : UnifyResult} → Unified x ws ks m ws' m' n (does (unify_f x n d) (decode ws ks n) (plan_means ks x (plans.Run s))) r
        → answer_of v ≡ both (answer_of q) (answer_of r) → Unified x ws ks m ws' m' n (does (unify_f x n d) (decode ws ks n) (steps_mean ks x k)) v
    steps_run {ws'} {m'} {r} {v} u f =
        let l = plan_means ks x (plans.Run s) in
        record {
          leaves = record {
            same = ap (λ (z : Steps). does (unify_f x n d) (decode ws ks n) (steps_mean ks x z)) e
                ∙ (run_base (unify_f x n d) (decode ws ks n) (answer_of q) l.base l.pairs
                ∙ (ap (λ (o : Out). out o.nodes (both (answer_of q) o.answer)) u.leaves.same ∙ ap (out (decode ws' ks n)) (sym f)));
            clean = u.leaves.clean;
            tail = u.leaves.tail;
          };
          recalls = u.recalls;
          since = u.since;
        }

  module _ {s : Runs} (e : k ≡ steps.Object s) where
    steps_objects : Asked x ws ks m n d (steps_mean ks x k).pairs × StepsReady x ks k
        → Asked x ws ks m n d (plan_means ks x (plans.Object s)).pairs × (RunsLie ks s × Ascends x ks s.b s.nb)
    steps_objects w = subst (λ (z : Steps). Asked x ws ks m n d (steps_mean ks x z).pairs × StepsReady x ks z) e w

    steps_object : {ws' m' : List ℕ} {r : UnifyResult} → Unified x ws ks m ws' m' n (does (unify_f x n d) (decode ws ks n) (plan_means ks x (plans.Object s))) r
        → Unified x ws ks m ws' m' n (does (unify_f x n d) (decode ws ks n) (steps_mean ks x k)) r
    steps_object {ws'} {m'} {r} u = subst (λ (z : Steps). Unified x ws ks m ws' m' n (does (unify_f x n d) (decode ws ks n) (steps_mean ks x z)) r) (sym e) u

-- the steps that two roots ask for

module _ {x : Texts} {ws ks m ws₂ m₂ : List ℕ} {n d : ℕ} {p q : Ty} {l : Steps} {began a b : ℕ} (h : Left x ws ks m ws₂ m₂ n d p q l began a b) where
  abbrev whole : Out
  whole = unify_f x n d (decode ws ks n) p q

  module _ {r : UnifyResult} (e : l ≡ steps.Answer r) where
    answered : Unified x ws₂ ks m₂ ws₂ m₂ n (does (unify_f x n (d - 1)) (decode ws₂ ks n) (steps_mean ks x l)) r
    answered = steps_answer (d - 1) (kids_asks h).0 e

    pub answer_settles : Settles ws₂ n m₂ (ty_of a) (ty_of b)
    answer_settles = kids_settles h answered

    pub way_answer : {ws₃ m₃ : List ℕ} {s : UnifyResult} → SettledTold ws₂ ws₃ n m₂ m₃ began a b r s → Unified x ws ks m ws₃ m₃ n whole s
    way_answer o = way_kids h answered o

  module _ {s : Runs} (e : l ≡ steps.Object s) where
    pub object_asked : Asked x ws₂ ks m₂ n (d - 1) (plan_means ks x (plans.Object s)).pairs × (RunsLie ks s × Ascends x ks s.b s.nb)
    object_asked = steps_objects (d - 1) e (kids_asks h)

    module _ {ws₃ m₃ : List ℕ} {r : UnifyResult} (u : Unified x ws₂ ks m₂ ws₃ m₃ n (does (unify_f x n (d - 1)) (decode ws₂ ks n) (plan_means ks x (plans.Object s))) r) where
      pub object_settles : Settles ws₃ n m₃ (ty_of a) (ty_of b)
      object_settles = kids_settles h (steps_object (d - 1) e u)

      pub way_object : {ws₄ m₄ : List ℕ} {v : UnifyResult} → SettledTold ws₃ ws₄ n m₃ m₄ began a b r v → Unified x ws ks m ws₄ m₄ n whole v
      way_object o = way_kids h (steps_object (d - 1) e u) o

  module _ {c : UnifyResult} {s : Runs} (e : l ≡ steps.Run c s) where
    pub run_asked : Asked x ws₂ ks m₂ n (d - 1) (plan_means ks x (plans.Run s)).pairs × RunsLie ks s
    run_asked = steps_runs (d - 1) e (kids_asks h)

    module _ {ws₃ m₃ : List ℕ} {r : UnifyResult} (u : Unified x ws₂ ks m₂ ws₃ m₃ n (does (unify_f x n (d - 1)) (decode ws₂ ks n) (plan_means ks x (plans.Run s))) r)
        (z : UnifyResult) (f : answer_of z ≡ both (answer_of c) (answer_of r)) where
      pub run_settles : Settles ws₃ n m₃ (ty_of a) (ty_of b)
      run_settles = kids_settles h {r = z} (steps_run (d - 1) e u f)

      pub way_run : {ws₄ m₄ : List ℕ} {v : UnifyResult} → SettledTold ws₃ ws₄ n m₃ m₄ began a b z v → Unified x ws ks m ws₄ m₄ n whole v
      way_run o = way_kids h {r = z} (steps_run (d - 1) e u f) o
