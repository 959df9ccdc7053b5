-- `roots::climb` meets its contract. The invariant: what is left to climb gives what the whole climb gives.
-- Assumes nothing.
use native.Mathlib.Omega.{arith}
use Rattle.roots.proofs.Laws.{climbs_start, climbs_up, climbs_root, climbs_out}
use Rattle.roots.proofs.climb.Goals as goal

pub loop-step-init : goal.loop-step-init
loop-step-init c = climbs_start c.args.t.0 c.idx-cur.ensures (omega arith)

pub returns-in_default : goal.returns-in_default
returns-in_default c =
    climbs_root c.loop-step.invariant c.args.t.0 _ c.new.ensures c.inv-inv.ensures
    c.idx-cur.ensures c.node_at.ensures c.in_default.is

pub loop-step-preserved : goal.loop-step-preserved
loop-step-preserved c =
    climbs_up c.requires c.loop-step.invariant (omega arith) c.node_at.ensures c.in-Child.is
    c.inv.ensures c.bitxor-inv.ensures c.idx-cur-in-loop-step.ensures

pub returns : goal.returns
returns c =
    climbs_out c.loop-step.invariant c.args.t.0 _ c.new-2.ensures c.inv-inv.ensures
    c.idx-cur.ensures (omega arith)
