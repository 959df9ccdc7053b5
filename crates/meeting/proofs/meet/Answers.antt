-- `meeting::meet` meets its contract: one node or a root without a kind asks for a walk, two kinds for their plan.
-- Assumes nothing.
use Rattle.meeting.proofs.MeetLaws.{met_same, met_bare_first, met_bare_second, met_kids}
use Rattle.meeting.proofs.meet.Goals as goal

pub returns-then-eq : goal.returns-then-eq
returns-then-eq c =
    met_same c.requires c.idx-ia.ensures c.idx-ib.ensures c.if-eq.ensures

pub returns-in_err-i : goal.returns-in_err-i
returns-in_err-i c =
    rw c.from_residual.ensures (met_bare_first c.requires c.idx-ia.ensures c.idx-ib.ensures c.if-eq.ensures c.held.ensures c.in_err-i.was)

pub returns-in_err-j : goal.returns-in_err-j
returns-in_err-j c =
    rw c.from_residual-in_err-j.ensures (met_bare_second c.requires c.idx-ia.ensures c.idx-ib.ensures c.if-eq.ensures c.held-2.ensures c.in_err-j.was)

pub returns : goal.returns
returns c =
    met_kids c.requires c.idx-ia.ensures c.idx-ib.ensures c.if-eq.ensures c.held.ensures c.in_ok-i.was c.held-2.ensures c.in_ok-j.was
    c.inv.ensures c.bitxor.ensures c.inv-2.ensures c.bitxor-2.ensures c.bitxor-inv.ensures c.plan_of.ensures
