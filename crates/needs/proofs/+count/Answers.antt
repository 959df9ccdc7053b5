-- `needs::count` meets its contract. The measure is the depth. A root that is not counted is counted before its children are walked from; the loop's
-- invariant: what is left of them gives what all of them give, and the finder stays.
-- Assumes nothing.
use mathlib.Core.Path.{refl}
use native.Mathlib.Omega.{arith}
use Rattle.needs.proofs.CountLaws.{turn_next, kid_next}
use Rattle.needs.proofs.CountLaws.{count_shallow, count_met, count_replaced, count_lacking, node_fits, node_turn, count_node}
use Rattle.needs.proofs.+count.Goals as goal
use Rattle.needs.proofs.+count.Goals.{then-not-is_met, else-not-is_met}
use Rattle.roots.proofs.Laws.{root_is}
use Rattle.roots.proofs.StaysLaws.{stays_same, stays_then}

pub returns-then-depth-eq0 : goal.returns-then-depth-eq0
returns-then-depth-eq0 t c = (count_shallow c.if-depth-eq0.true, stays_same _)

pub returns-then-is_counted : goal.returns-then-is_counted
returns-then-is_counted t c =
    (count_met _ _ _ _ _ _ _ _ _ (root_is c.find.ensures.0 c.idx-root.ensures _) c.is_counted.ensures c.if-is_counted.true, c.find.ensures.1)

pub overflow_add-all-in-Node : goal.overflow_add-all-in-Node
overflow_add-all-in-Node t c =
    let z = node_fits _ _ _ _ _ _ _ 0 _ (root_is c.find.ensures.0 c.idx-root.ensures _) c.is_counted.ensures
    c.requires.source c.if-is_counted.false c.root_asks.ensures c.in-Node.is c.requires.long c.requires.small in
    omega (arith, z.1)

pub loop-j-init : goal.loop-j-init
loop-j-init t c = (
  node_turn _ _ _ _ _ _ _ _ _ (root_is c.find.ensures.0 c.idx-root.ensures _) c.is_counted.ensures
      c.requires.source c.if-is_counted.false c.root_asks.ensures c.in-Node.is c.set_mark.ensures c.requires.small,
  c.find.ensures.1,
)

pub loop-j-preserved : goal.loop-j-preserved
loop-j-preserved t c =
    let e = kid_next c.args.finder.now.nodes.now.kids.now _ _ _ c.child.result c.loop-j-test.true c.child.ensures in
    elim c.if-not-is_met.branch [
      | then-not-is_met w ↦ rw (w.finder-is, w.marks-is, w.all-is) (
        turn_next c.loop-j.invariant.0 c.requires.source e (rw (c.is_met.ensures.1.nodes, c.loop-j.invariant.1.nodes) at w.count-all.ensures.0) w.count-all.auto.marks,
        stays_then (stays_then c.loop-j.invariant.1 c.is_met.ensures.1) w.count-all.ensures.1,
      )
      | else-not-is_met w ↦ rw (w.finder-is, w.marks-is, w.all-is) (
        turn_next c.loop-j.invariant.0 c.requires.source e ((rw c.loop-j.invariant.1.nodes at c.is_met.ensures.0).is w.if-not-is_met.false c.args.finder.now.nodes.now.kids.now _ _ _) refl,
        stays_then c.loop-j.invariant.1 c.is_met.ensures.1,
      )
    ]

pub returns-in-Replaced : goal.returns-in-Replaced
returns-in-Replaced t c = (
  count_replaced _ _ _ _ _ _ _ _ _ (root_is c.find.ensures.0 c.idx-root.ensures _) c.is_counted.ensures
      c.requires.source c.if-is_counted.false c.root_asks.ensures c.in-Replaced.is,
  c.find.ensures.1,
)

pub returns-in-Missing : goal.returns-in-Missing
returns-in-Missing t c = (
  count_lacking _ _ _ _ _ _ _ _ _ (root_is c.find.ensures.0 c.idx-root.ensures _) c.is_counted.ensures
      c.requires.source c.if-is_counted.false c.root_asks.ensures c.if-depth-eq0.false c.in-Missing.is,
  c.find.ensures.1,
)

pub returns-after-loop-j : goal.returns-after-loop-j
returns-after-loop-j t c = (
  count_node _ _ _ _ _ _ _ _ _ (root_is c.find.ensures.0 c.idx-root.ensures _) c.is_counted.ensures
      c.requires.source c.if-is_counted.false c.root_asks.ensures c.in-Node.is c.set_mark.ensures
      c.if-depth-eq0.false c.loop-j.invariant.0 c.loop-j-test.false,
  c.loop-j.invariant.1,
)
