-- `states::free_all` meets its contract. The invariant: the first i places are free, and all else that is asked for is as it was.
-- Assumes nothing.
use Rattle.states.proofs.FreeLaws.{free_next, free_more}
use Rattle.states.proofs.free_all.Goals as goal

pub loop-i-preserved : goal.loop-i-preserved
loop-i-preserved c =
    let here = free_next c.loop-i.invariant c.requires c.loop-i-test.true in
    rw c.free_at.ensures (free_more here c.loop-i.invariant)
