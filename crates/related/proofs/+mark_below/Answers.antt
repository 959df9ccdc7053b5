-- `related::mark_below` meets its contract. The measure is the depth. The loop's invariant: what is left of the children gives what all of them give, the
-- finder stays, nodes that have been told have marked roots, and what the skips pass over are slots of marked roots.
-- Assumes nothing.
use mathlib.Core.Path.{◌∙◌}
use Prim.Native.Nat.{◌+◌}
use native.Mathlib.Omega.{arith}
use Rattle.layout.specs.Lent.{nodes_by}
use Rattle.roots.specs.StaysLent.{StaysLent}
use Rattle.roots.proofs.StaysLaws.{stays_same, stays_then}
use Rattle.related.proofs.KeepLaws.{keeps_over, keeps_pass, keeps_met, keeps_new, keeps_stretch}
use Rattle.related.proofs.TurnLaws.{Onward, below_shallow, below_none, below_kind, turn_pass, turn_end, turn_stretch, turn_met, turn_new}
use Rattle.related.proofs.+mark_below.Goals as goal
use Rattle.related.proofs.+mark_below.Goals.{in-Some-meet, in_default-meet}

pub returns-then-depth-eq0 : goal.returns-then-depth-eq0
returns-then-depth-eq0 t c =
    (below_shallow c.args.depth (nodes_by c.args.finder.now.nodes.now) _ c.args.root.0 c.if-depth-eq0.true, c.requires.1, stays_same _)

pub returns-in_default : goal.returns-in_default
returns-in_default t c =
    (below_none _ c.requires.0 c.held.ensures _ _ c.in_default.is, c.requires.1, stays_same _)

pub loop-s-preserved-then-far-gt0 : goal.loop-s-preserved-then-far-gt0
loop-s-preserved-then-far-gt0 t c = (
  turn_pass c.args.depth (nodes_by c.args.finder.now.nodes.now) _ c.loop-s.invariant.0 (keeps_over c.loop-s.invariant.1 c.pass-far.ensures),
  keeps_pass c.loop-s.invariant.1 c.pass-far.ensures,
  c.loop-s.invariant.2,
  c.loop-s.invariant.3,
  c.pass-far.auto.skip ∙ c.loop-s.invariant.4,
  c.loop-s.invariant.5,
)

pub mark_below-requires : goal.mark_below-requires
mark_below-requires t c =
    let met = rw c.loop-s.invariant.2.nodes at c.meet.ensures.0 in
    (omega arith, rw (c.meet.ensures.1.nodes, c.loop-s.invariant.2.nodes) (c.requires.0, keeps_new (keeps_pass c.loop-s.invariant.1 c.pass-far.ensures) met c.in-Some-meet.is))

pub loop-s-preserved : goal.loop-s-preserved
loop-s-preserved t c =
    let a = c.args in
    let nodes = a.finder.now.nodes in
    let m = c.match-meet in
    let p = keeps_pass c.loop-s.invariant.1 c.pass-far.ensures in
    let met = rw c.loop-s.invariant.2.nodes at c.meet.ensures.0 in
    let stays = stays_then c.loop-s.invariant.2 c.meet.ensures.1 in
    let o :
    Onward a.depth nodes.now.words.now nodes.now.kids.now nodes.now.made c.in-Some.kind.first (c.in-Some.kind.first + c.in-Some.kind.count) a.marks.now m.marks m.seen m.skip
    (c.loop-s.s + 1) × StaysLent a.finder.now m.finder =
    elim m.branch [
      | in-Some-meet w ↦
          let below = rw stays.nodes at w.mark_below.ensures.0 in
          let keeps = rw stays.nodes at w.mark_below.ensures.1 in
          rw (w.finder-is, w.marks-is, w.seen-is, w.skip-is) (
            record {
              turn =
                  turn_new a.depth c.loop-s.invariant.0 c.child_at.result c.loop-s-test.true c.child_at.ensures met c.if-depth-eq0.false
                  w.in-Some-meet.is below w.mark_below.auto.marks;
              keeps = keeps;
            },
            stays_then stays w.mark_below.ensures.2,
          )
      | in_default-meet w ↦
          rw (w.finder-is, w.marks-is, w.seen-is, w.skip-is) (
            record {
              turn =
                  turn_met a.depth c.loop-s.invariant.0 c.child_at.result c.loop-s-test.true c.child_at.ensures met w.in_default-meet.is;
              keeps = keeps_met p met w.in_default-meet.is;
            },
            stays,
          )
    ]
    in (
      turn_stretch a.depth c.loop-s.s o.0.turn o.0.keeps c.stretch-s.ensures.scanned,
      keeps_stretch o.0.keeps c.stretch-s.ensures,
      o.1,
      m.auto.seen ∙ (c.meet.auto.seen ∙ c.loop-s.invariant.3),
      c.stretch-s.auto.skip ∙ (m.auto.skip ∙ (c.pass-far.auto.skip ∙ c.loop-s.invariant.4)),
      c.loop-s.invariant.5,
    )

pub returns : goal.returns
returns t c = (
  turn_end c.loop-s.invariant.0 (omega (arith, c.loop-s-test.false)) ∙ below_kind _ c.requires.0 c.held.ensures _ _ c.in-Some.is,
  c.loop-s.invariant.1,
  c.loop-s.invariant.2,
)
