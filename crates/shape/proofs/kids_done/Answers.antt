-- `shape::kids_done` meets its contract. The loop's invariant: if `done` still says so, the walks on from the places passed end, since their nodes lie
-- before v or are done.
-- Assumes nothing.
use Rattle.shape.proofs.VisitLaws as laws
use Rattle.shape.proofs.kids_done.Goals as goal

pub returns-in_default : goal.returns-in_default
returns-in_default c = let asked = c.requires.visits in
    λ _. laws.ended_bare asked.falls asked.node c.held.ensures c.in_default.is

pub at-root_more-requires : goal.at-root_more-requires
at-root_more-requires c = let asked = c.requires.visits in
    let run = laws.in_kind asked.falls asked.node c.held.ensures c.in-Some.is c.loop-i.invariant.low c.loop-i-test.true in
    (laws.kid_known asked.falls asked.node run c.kid_at.ensures).0

pub is_done-requires : goal.is_done-requires
is_done-requires c = let asked = c.requires.visits in
    let run = laws.in_kind asked.falls asked.node c.held.ensures c.in-Some.is c.loop-i.invariant.low c.loop-i-test.true in
    laws.root_marked asked.falls asked.node run c.kid_at.ensures c.at-root_more.ensures

pub returns : goal.returns
returns c = let asked = c.requires.visits in
    let held = c.held.ensures in
    laws.run_ended asked.falls asked.node held c.in-Some.is c.loop-i.invariant c.loop-i-test.false
