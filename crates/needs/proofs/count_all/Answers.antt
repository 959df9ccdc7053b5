-- `needs::count_all` meets its contract. The loop's invariant: what is left of the list gives what the whole list gives. The measure is what is left
-- of its length. Assumes nothing.
use Rattle.roots.proofs.StaysLaws.{stays_then}
use Rattle.needs.proofs.CountLaws.{turn_next}
use Rattle.needs.proofs.SourceLaws.{listed_next}
use Rattle.needs.proofs.count_all.Goals as goal

pub loop-t-preserved : goal.loop-t-preserved
loop-t-preserved c = (
  turn_next c.loop-t.invariant.0 c.requires.source (listed_next c.args.ts.now c.loop-t.t-index c.loop-t-test.true)
      (rw c.loop-t.invariant.1.nodes at c.count-all.ensures.0) c.count-all.auto.marks,
  stays_then c.loop-t.invariant.1 c.count-all.ensures.1,
)
