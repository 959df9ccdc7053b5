-- `roots::find_far` meets its contract. The invariant: what is left to point at the root leaves what the whole leaves, and no word but a child's link
-- has changed.
-- Assumes nothing.
use native.Mathlib.Omega.{arith}
use Rattle.roots.proofs.Laws.{points_up, points_root, points_out}
use Rattle.roots.proofs.find_far.Goals as goal

pub returns-in_default : goal.returns-in_default
returns-in_default c =
    points_root c.loop.invariant c.args.t.0 c.climb-root.ensures c.inv-inv.ensures c.idx-cur.ensures
    c.node_at.ensures c.in_default.is

pub loop-preserved : goal.loop-preserved
loop-preserved c =
    points_up c.invert_if.result c.loop.invariant (omega arith) c.node_at.ensures c.in-Child.is c.invert_if.ensures
    c.put_node.ensures c.inv.ensures c.bitxor-inv.ensures c.idx-cur-in-loop.ensures

pub returns : goal.returns
returns c =
    points_out c.loop.invariant c.args.t.0 c.climb-root.ensures c.inv-inv.ensures c.idx-cur.ensures
    (omega arith)
