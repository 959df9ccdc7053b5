-- `plan::plan_of` meets its contract. Each way out is a law on two kinds; where the children are to be unified, the kinds met either because their
-- inversions agree or because they cross, which is read off the two ways past that test. Assumes nothing.
use native.Mathlib.Omega.{arith}
use Rattle.names.specs.Place.{texts_by}
use Rattle.plan.specs.Meaning.{crosses_kind}
use Rattle.plan.proofs.Laws.{Meets, free_plain, free_crossed, meets, plan_error, plan_unequal, plan_crossed, plan_object, plan_closure, plan_run}
use Rattle.plan.proofs.plan_of.Goals as goal
use Rattle.plan.proofs.plan_of.Goals.{Joined-else-inv, else-inv-via-then-inv+else-not-crosses, else-inv-via-else-inv}

met : (c : Joined-else-inv) → Meets (texts_by c.args.texts.now) c.args.k c.args.m c.args.inv.0
met c =
    meets _ _ _ _ c.if-k-eq-ERROR.false c.if-m-eq-ERROR.false c.same_kinds.result c.same_kinds.ensures c.if-not-same_kinds.false
    (elim c.else-inv.branch [
      | else-inv-via-then-inv+else-not-crosses w ↦ free_crossed c.args.inv.0 w.crosses.result (crosses_kind c.args.k) w.crosses.ensures w.if-not-crosses.false
      | else-inv-via-else-inv w ↦ free_plain c.args.inv.0 (crosses_kind c.args.k) w.if-inv.false
    ])

pub returns-then-k-eq-ERROR : goal.returns-then-k-eq-ERROR
returns-then-k-eq-ERROR c = plan_error _ _ _ _ c.then-k-eq-ERROR.either

pub returns-then-not-same_kinds : goal.returns-then-not-same_kinds
returns-then-not-same_kinds c = plan_unequal _ _ _ _ c.if-k-eq-ERROR.false c.if-m-eq-ERROR.false c.same_kinds.result
    c.same_kinds.ensures c.if-not-same_kinds.true

pub returns-then-not-crosses : goal.returns-then-not-crosses
returns-then-not-crosses c = plan_crossed _ _ _ _ c.if-k-eq-ERROR.false c.if-m-eq-ERROR.false
    c.same_kinds.result c.crosses.result c.same_kinds.ensures
    c.if-inv.true c.crosses.ensures c.if-not-crosses.true

pub returns-in-2 : goal.returns-in-2
returns-in-2 c = plan_object _ _ _ _ (met (goal.at.returns-in-2 c).Joined-else-inv) c.in-2.is

pub returns-in-8 : goal.returns-in-8
returns-in-8 c = plan_closure _ _ _ _ (met (goal.at.returns-in-8 c).Joined-else-inv) c.in-8.is

pub returns-in_default : goal.returns-in_default
returns-in_default c =
    plan_run _ _ _ _ (met (goal.at.returns-in_default c).Joined-else-inv) (λ e. omega arith) (λ e. omega arith)
