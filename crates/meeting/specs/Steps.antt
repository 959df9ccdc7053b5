-- What two kinds ask of their children, step by step: a signature is one run. Where the children lie, and that no name comes twice in an object.
use Rattle.std.specs.Prelude.{◌≡◌, true, List, map, ℕ, ◌+◌, ◌-◌, ◌≤◌, length}
use Rattle.scope.specs.Limits.{MAX_CHILDREN}
use Rattle.scope.specs.Names.{Texts, bytes_or, ascending}
use Rattle.scope.specs.Unify.{answers, after}
use Rattle.scope.specs.Unify as scope
use Rattle.types.specs.Answers.{answer_of}
use Rattle.layout.specs.Words.{child_words}
use Rattle.plan.specs.Meaning.{names_from, plan_means}
use Rattle.plan.specs.declared.Runs.{Runs}
use Rattle.plan.specs.declared.Plan.{Plan}
use Rattle.plan.specs.declared.Plan.TheVariants as plans
use Rattle.meeting.specs.declared.Steps.{Steps}
use Rattle.meeting.specs.declared.Steps.TheVariants.{Answer, Run, Object}

abbrev pub steps_mean : List ℕ → Texts → Steps → scope.Plan
steps_mean ks x (Answer r) = answers (answer_of r)
steps_mean ks x (Run r s) = after (answers (answer_of r)) (plan_means ks x (plans.Run s))
steps_mean ks x (Object s) = plan_means ks x (plans.Object s)

-- both runs are of children that a store may have
pub record Spans (s : Runs) : Type 0 where
  pub first : s.a + s.na ≤ MAX_CHILDREN
  pub second : s.b + s.nb ≤ MAX_CHILDREN

-- both runs lie in ks
pub record RunsLie (ks : List ℕ) (s : Runs) : Type 0 where
  pub first : child_words (s.a + s.na) ≤ length ks
  pub second : child_words (s.b + s.nb) ≤ length ks

-- the names of count children from b on ascend
pub record Ascends (x : Texts) (ks : List ℕ) (b count : ℕ) : Type 0 where
  pub names : ascending (map (bytes_or x) (names_from ks b count)) ≡ true

abbrev pub StepsReady : Texts → List ℕ → Steps → Type 0
StepsReady x ks (Answer r) = Unit {0}
StepsReady x ks (Run r s) = RunsLie ks s
StepsReady x ks (Object s) = RunsLie ks s × Ascends x ks s.b s.nb

abbrev pub PlanSpans : Plan → Type 0
PlanSpans (plans.Answer r) = Unit {0}
PlanSpans (plans.Run s) = Spans s
PlanSpans (plans.Object s) = Spans s
PlanSpans (plans.Signature s) = Spans s

abbrev pub PlanReady : Texts → List ℕ → Plan → Type 0
PlanReady x ks (plans.Answer r) = Unit {0}
PlanReady x ks (plans.Run s) = RunsLie ks s
PlanReady x ks (plans.Object s) = RunsLie ks s × Ascends x ks s.b s.nb
PlanReady x ks (plans.Signature s) = RunsLie ks s

-- whatever the children are, f is the plan p
pub record Stepped (p : Plan) (f : Steps) : Type 0 where
  pub same : (ks : List ℕ) (x : Texts) → steps_mean ks x f ≡ plan_means ks x p
  pub ready : (ks : List ℕ) (x : Texts) → PlanReady x ks p → StepsReady x ks f

-- two signatures that have a return each
pub record Lasts (s : Runs) : Type 0 where
  pub spans : Spans s
  pub first : s.na ≡ 0 → ⊥
  pub second : s.nb ≡ 0 → ⊥

-- these alone
pub record Returns (s r : Runs) : Type 0 where
  pub a : r.a ≡ s.a + (s.na - 1)
  pub na : r.na ≡ 1
  pub b : r.b ≡ s.b + (s.nb - 1)
  pub nb : r.nb ≡ 1
  pub inv : r.inv ≡ s.inv
