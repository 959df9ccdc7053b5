-- `show::show_by` meets its contract. The measure is the depth. A kind is written child after child; the loop's invariant: what is left to write
-- gives, appended, what the whole gives, and the finder stays.
-- Assumes nothing.
use mathlib.Core.Path.{ap, ◌∙◌}
use mathlib.Core.Bool.{◌&&◌}
use Prim.Native.Nat.{◌-◌}
use Rattle.scope.specs.Base.{xor}
use Rattle.scope.specs.Show.{show_f}
use Rattle.chart.specs.Env.{env_by}
use Rattle.layout.specs.Lent.{nodes_by}
use Rattle.roots.proofs.StaysLaws.{stays_same, stays_then}
use Rattle.append.proofs.Laws.{puts_full, is_over}
use Rattle.show.proofs.Turns.{turn_next, turn_end, show_shallow, show_unknown, show_known, level_put, kid_shown}
use Rattle.show.proofs.+show_by.Goals as goal
use Rattle.show.proofs.+show_by.Goals.{then-depth-eq0-via-then-depth-eq0, then-depth-eq0-via-else-depth-eq0+then-is_full}

pub returns-then-depth-eq0 : goal.returns-then-depth-eq0
returns-then-depth-eq0 t c =
    elim c.then-depth-eq0.branch [
      | then-depth-eq0-via-then-depth-eq0 w ↦ (show_shallow _ _ _ _ _ w.if-depth-eq0.true, stays_same _)
      | then-depth-eq0-via-else-depth-eq0+then-is_full w ↦ (puts_full _ _ (is_over w.is_full.ensures w.if-is_full.true), stays_same _)
    ]

pub returns-in_default : goal.returns-in_default
returns-in_default t c =
    let a = c.args in
    let e = env_by a.env.now in
    let st = c.requires in
    let unknown =
    show_unknown st e a.depth a.t.0 c.if-depth-eq0.false c.find-root.result.0 c.idx.result.0 c.find-root.ensures.0 c.idx.ensures c.held.result c.held.ensures
    c.in_default.is in
    (rw unknown c.put_unknown.ensures, c.find-root.ensures.1)

pub loop-j-preserved : goal.loop-j-preserved
loop-j-preserved t c =
    let a = c.args in
    let e = env_by a.env.now in
    let k = c.in-Some.kind in
    let deep = c.bitxor-i.result.0 && c.self_dual-dual.result in (
      turn_next _ _ _ _ c.loop-j.invariant.0 c.loop-j-test.true c.put_gap.ensures
          (kid_shown (show_f e (a.depth - 1) (nodes_by a.finder.now.nodes.now)) a.finder.now.nodes.now.kids.now k deep c.loop-j.j c.child.result
          c.invert_if.result.0 c.invert_if.ensures c.child.ensures (rw c.loop-j.invariant.1.nodes at c.show_by.ensures.0)),
      stays_then c.loop-j.invariant.1 c.show_by.ensures.1,
    )

pub returns : goal.returns
returns t c =
    let a = c.args in
    let e = env_by a.env.now in
    let st = c.requires in
    let known =
    show_known st e a.depth a.t.0 c.if-depth-eq0.false c.find-root.result.0 c.idx.result.0 c.find-root.ensures.0 c.idx.ensures c.held.result c.held.ensures
    c.in-Some.inv c.in-Some.kind c.in-Some.is c.bitxor-i.result.0 (c.bitxor-i.result.0 && c.self_dual-dual.result) c.shown-count.result
    (c.bitxor-i.ensures ∙ ap (xor c.in-Some.inv.0) c.inv.ensures) (ap (λ d. c.bitxor-i.result.0 && d) c.self_dual-dual.ensures) (rw c.find-root.ensures.1.nodes at c.shown-count.ensures.0) in
    let rest = turn_end _ _ _ _ c.loop-j.invariant.0 c.loop-j-test.false c.put_close.ensures in
    (rw known (level_put _ _ c.in-Some.kind c.bitxor-i.result.0 c.self_dual-dual.result c.self_dual-dual.ensures c.put_lead.ensures rest), c.loop-j.invariant.1)
