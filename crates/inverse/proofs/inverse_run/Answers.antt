-- `inverse::inverse_run` meets its contract. The invariant: the run that is walked and those above it tell what all children tell. The measure: a visit goes one
-- level down at most.
-- Assumes nothing.
use borrow.Author.Rules.{rules}
use borrow.Author.Tests.{tests}
use Rattle.layout.proofs.LinkLaws.{clean_linked}
use Rattle.inverse.proofs.RunLaws.{going_start, going_up, going_met, going_good, going_down, passed_next}
use Rattle.inverse.proofs.RunLaws.{tries_bad, told_zero, told_bad, told_good, told_run}
use Rattle.inverse.proofs.inverse_run.Goals as goal

pub loop-left-init : goal.loop-left-init
loop-left-init c = rw c.whole-run.ensures (going_start _ _ _ _ _ c.new-above.ensures)

pub find_in-requires : goal.find_in-requires
find_in-requires c = clean_linked _ _ _ _ c.requires.clean

pub returns-in-Bad : goal.returns-in-Bad
returns-in-Bad c =
    tries_bad
    (going_met c.loop-left.invariant c.child_at.result (passed_next c.next.ensures.steps c.in-Some.is) c.child_at.ensures
    (told_bad c.requires c.find_in.ensures c.idx-root.ensures c.judge.ensures c.in-Bad.is))

pub loop-left-preserved-in-Good : goal.loop-left-preserved-in-Good
loop-left-preserved-in-Good c =
    going_good c.loop-left.invariant c.child_at.result (passed_next c.next.ensures.steps c.in-Some.is) c.child_at.ensures c.loop-left-test.true
    (told_good c.requires c.find_in.ensures c.idx-root.ensures c.judge.ensures c.in-Good.is)

pub loop-left-preserved-in-Run : goal.loop-left-preserved-in-Run
loop-left-preserved-in-Run c =
    let run = told_run c.requires c.find_in.ensures c.idx-root.ensures c.judge.ensures c.in-Run.is in
    rw c.whole-run-in-Run.ensures (going_down c.loop-left.invariant c.child_at.result (passed_next c.next.ensures.steps c.in-Some.is) c.child_at.ensures c.loop-left-test.true
    _ _
    (told_zero c.requires c.find_in.ensures c.idx-root.ensures c.judge.ensures) run c.push.ensures.items)

pub loop-left-preserved : goal.loop-left-preserved
loop-left-preserved c = going_up c.loop-left.invariant c.pop.ensures.items (search (rules, tests)) cc
