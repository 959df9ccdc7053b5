-- The cycle `unify_objects`, `unify_pair`, `unify_types` meets its contracts. The measure is twice the depth, and one more for a run and an object. A loop's invariant:
-- the pairs that are left give what the whole gives, from words and a memory that still meet what is asked.
-- Assumes nothing.
use mathlib.Core.Path.{refl, ◌∙◌}
use native.Mathlib.Omega.{arith}
use native.Mathlib.Nat.{pos_of_ne-zero}
use Rattle.scope.specs.Types.{ty_of}
use Rattle.meeting.proofs.KidLaws.{child_place, child_type}
use Rattle.unify_enter.proofs.Laws.{entered_kids}
use Rattle.unify_enter.proofs.QuickLaws.{quick_adds, quick_merged, quick_asked, quick_not}
use Rattle.unify.proofs.RunLaws.{both_success, run_fails, run_start, run_pair, run_asks, run_next, run_ends}
use Rattle.unify.proofs.RunLaws.{stored_start, object_none, object_pair, object_asks, object_next, stored_ends}
use Rattle.unify.proofs.StepLaws.{answer_settles, way_answer, object_asked, object_settles, way_object, run_asked, run_settles, way_run}
use Rattle.unify.proofs.+unify_objects_unify_pair_unify_types.Goals as goal
use Rattle.unify.proofs.+unify_objects_unify_pair_unify_types.Goals.{unify_objects-else-depth-ne0-via-then-depth-ne0+else-quick, unify_objects-else-depth-ne0-via-else-depth-ne0}
use Rattle.unify.proofs.+unify_objects_unify_pair_unify_types.Goals.{unify_types-else-depth-ne0-via-then-depth-ne0+else-quick, unify_types-else-depth-ne0-via-else-depth-ne0}

-- two objects

pub unify_objects-loop-j-init : goal.unify_objects-loop-j-init
unify_objects-loop-j-init t c = (refl, refl, stored_start c.requires.0 c.from-r.ensures)

pub unify_objects-quick-requires : goal.unify_objects-quick-requires
unify_objects-quick-requires t c =
    quick_adds (object_asks
    (object_pair c.loop-j.invariant.2 c.loop-j-test.true (child_place c.child_of-x.ensures) c.seek_near-f.ensures c.in-Some.is (child_type c.child_of-x.ensures) c.invert_if-u.ensures))

pub unify_objects-loop-j-preserved-then-quick : goal.unify_objects-loop-j-preserved-then-quick
unify_objects-loop-j-preserved-then-quick t c =
    let next =
    object_pair c.loop-j.invariant.2 c.loop-j-test.true (child_place c.child_of-x.ensures) c.seek_near-f.ensures c.in-Some.is (child_type c.child_of-x.ensures) c.invert_if-u.ensures in (
      c.quick.auto.ws ∙ c.loop-j.invariant.0,
      c.quick.auto.memory ∙ c.loop-j.invariant.1,
      object_next next (quick_merged (object_asks next) c.if-depth-ne0.true c.quick.ensures c.if-quick.true) (both_success _),
    )

pub unify_objects-unify_pair-requires : goal.unify_objects-unify_pair-requires
unify_objects-unify_pair-requires t c =
    let next =
    object_pair c.loop-j.invariant.2 c.loop-j-test.true (child_place c.child_of-x.ensures) c.seek_near-f.ensures c.in-Some.is (child_type c.child_of-x.ensures) c.invert_if-u.ensures in (
      omega arith,
      elim c.else-depth-ne0.branch [
        | unify_objects-else-depth-ne0-via-then-depth-ne0+else-quick w ↦ rw (w.ws-is, w.memory-is) (quick_asked (object_asks next) w.quick.ensures w.if-quick.false)
        | unify_objects-else-depth-ne0-via-else-depth-ne0 w ↦ rw (w.ws-is, w.memory-is) (object_asks next)
      ],
    )

pub unify_objects-loop-j-preserved : goal.unify_objects-loop-j-preserved
unify_objects-loop-j-preserved t c =
    let next =
    object_pair c.loop-j.invariant.2 c.loop-j-test.true (child_place c.child_of-x.ensures) c.seek_near-f.ensures c.in-Some.is (child_type c.child_of-x.ensures) c.invert_if-u.ensures in (
      c.unify_pair.auto.ws ∙ (c.else-depth-ne0.auto.ws ∙ c.loop-j.invariant.0),
      c.unify_pair.auto.memory ∙ (c.else-depth-ne0.auto.memory ∙ c.loop-j.invariant.1),
      elim c.else-depth-ne0.branch [
        | unify_objects-else-depth-ne0-via-then-depth-ne0+else-quick w ↦
            object_next next (quick_not c.args.depth w.quick.ensures w.if-quick.false (rw (← w.ws-is, ← w.memory-is) c.unify_pair.ensures)) c.and-r-in-loop-j.ensures
        | unify_objects-else-depth-ne0-via-else-depth-ne0 w ↦ object_next next (rw (← w.ws-is, ← w.memory-is) c.unify_pair.ensures) c.and-r-in-loop-j.ensures
      ],
    )

pub unify_objects-loop-j-preserved-in_default : goal.unify_objects-loop-j-preserved-in_default
unify_objects-loop-j-preserved-in_default t c = (
  c.loop-j.invariant.0,
  c.loop-j.invariant.1,
  object_none c.loop-j.invariant.2 c.loop-j-test.true (child_place c.child_of-x.ensures) c.seek_near-f.ensures c.in_default.is c.and-r.ensures,
)

pub unify_objects-returns : goal.unify_objects-returns
unify_objects-returns t c = stored_ends c.loop-j.invariant.2 c.loop-j-test.false

-- a pair

pub unify_pair-settle-requires : goal.unify_pair-settle-requires
unify_pair-settle-requires t c =
    answer_settles (entered_kids c.args.depth (ty_of c.args.a.0) (ty_of c.args.b.0) c.enter.ensures c.in-Kids.is) c.in-Answer.is

pub unify_pair-unify_objects-r-requires : goal.unify_pair-unify_objects-r-requires
unify_pair-unify_objects-r-requires t c =
    let l = entered_kids c.args.depth (ty_of c.args.a.0) (ty_of c.args.b.0) c.enter.ensures c.in-Kids.is in
    (omega (arith, pos_of_ne-zero l.roots.up.deep), object_asked l c.in-Object.is)

pub unify_pair-settle-requires-in-Object : goal.unify_pair-settle-requires-in-Object
unify_pair-settle-requires-in-Object t c =
    object_settles (entered_kids c.args.depth (ty_of c.args.a.0) (ty_of c.args.b.0) c.enter.ensures c.in-Kids.is) c.in-Object.is c.unify_objects-r.ensures

pub unify_pair-unify_types-requires : goal.unify_pair-unify_types-requires
unify_pair-unify_types-requires t c =
    let l = entered_kids c.args.depth (ty_of c.args.a.0) (ty_of c.args.b.0) c.enter.ensures c.in-Kids.is in
    (omega (arith, pos_of_ne-zero l.roots.up.deep), run_asked l c.in-Run.is)

pub unify_pair-settle-requires-in-Run : goal.unify_pair-settle-requires-in-Run
unify_pair-settle-requires-in-Run t c =
    run_settles (entered_kids c.args.depth (ty_of c.args.a.0) (ty_of c.args.b.0) c.enter.ensures c.in-Kids.is) c.in-Run.is
    c.unify_types.ensures c.and-r.result c.and-r.ensures

pub unify_pair-returns-in-Answer : goal.unify_pair-returns-in-Answer
unify_pair-returns-in-Answer t c =
    way_answer (entered_kids c.args.depth (ty_of c.args.a.0) (ty_of c.args.b.0) c.enter.ensures c.in-Kids.is) c.in-Answer.is c.settle.ensures

pub unify_pair-returns-in-Object : goal.unify_pair-returns-in-Object
unify_pair-returns-in-Object t c =
    way_object (entered_kids c.args.depth (ty_of c.args.a.0) (ty_of c.args.b.0) c.enter.ensures c.in-Kids.is) c.in-Object.is
    c.unify_objects-r.ensures c.settle-in-Object.ensures

pub unify_pair-returns-in-Run : goal.unify_pair-returns-in-Run
unify_pair-returns-in-Run t c =
    way_run (entered_kids c.args.depth (ty_of c.args.a.0) (ty_of c.args.b.0) c.enter.ensures c.in-Kids.is) c.in-Run.is
    c.unify_types.ensures c.and-r.result c.and-r.ensures c.settle-in-Run.ensures

-- two runs

pub unify_types-returns-then-s : goal.unify_types-returns-then-s
unify_types-returns-then-s t c = run_fails _ c.requires.0 c.if-s.true

pub unify_types-loop-i-init : goal.unify_types-loop-i-init
unify_types-loop-i-init t c = (refl, refl, run_start c.requires.0 c.if-s.false)

pub unify_types-quick-requires : goal.unify_types-quick-requires
unify_types-quick-requires t c =
    quick_adds (run_asks (run_pair c.loop-i.invariant.2 c.loop-i-test.true (child_type c.child_of.ensures) (child_type c.child_of-in-loop-i.ensures) c.invert_if-y.ensures))

pub unify_types-loop-i-preserved-then-quick : goal.unify_types-loop-i-preserved-then-quick
unify_types-loop-i-preserved-then-quick t c =
    let next = run_pair c.loop-i.invariant.2 c.loop-i-test.true (child_type c.child_of.ensures) (child_type c.child_of-in-loop-i.ensures) c.invert_if-y.ensures in (
      c.quick.auto.ws ∙ c.loop-i.invariant.0,
      c.quick.auto.memory ∙ c.loop-i.invariant.1,
      run_next next (quick_merged (run_asks next) c.if-depth-ne0.true c.quick.ensures c.if-quick.true) (both_success _),
    )

pub unify_types-unify_pair-requires : goal.unify_types-unify_pair-requires
unify_types-unify_pair-requires t c =
    let next = run_pair c.loop-i.invariant.2 c.loop-i-test.true (child_type c.child_of.ensures) (child_type c.child_of-in-loop-i.ensures) c.invert_if-y.ensures in (
      omega arith,
      elim c.else-depth-ne0.branch [
        | unify_types-else-depth-ne0-via-then-depth-ne0+else-quick w ↦ rw (w.ws-is, w.memory-is) (quick_asked (run_asks next) w.quick.ensures w.if-quick.false)
        | unify_types-else-depth-ne0-via-else-depth-ne0 w ↦ rw (w.ws-is, w.memory-is) (run_asks next)
      ],
    )

pub unify_types-loop-i-preserved : goal.unify_types-loop-i-preserved
unify_types-loop-i-preserved t c =
    let next = run_pair c.loop-i.invariant.2 c.loop-i-test.true (child_type c.child_of.ensures) (child_type c.child_of-in-loop-i.ensures) c.invert_if-y.ensures in (
      c.unify_pair.auto.ws ∙ (c.else-depth-ne0.auto.ws ∙ c.loop-i.invariant.0),
      c.unify_pair.auto.memory ∙ (c.else-depth-ne0.auto.memory ∙ c.loop-i.invariant.1),
      elim c.else-depth-ne0.branch [
        | unify_types-else-depth-ne0-via-then-depth-ne0+else-quick w ↦
            run_next next (quick_not c.args.depth w.quick.ensures w.if-quick.false (rw (← w.ws-is, ← w.memory-is) c.unify_pair.ensures)) c.and-r.ensures
        | unify_types-else-depth-ne0-via-else-depth-ne0 w ↦ run_next next (rw (← w.ws-is, ← w.memory-is) c.unify_pair.ensures) c.and-r.ensures
      ],
    )

pub unify_types-returns : goal.unify_types-returns
unify_types-returns t c = run_ends c.loop-i.invariant.2 c.loop-i-test.false
