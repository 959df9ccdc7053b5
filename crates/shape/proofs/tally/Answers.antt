-- `shape::tally` meets its contract. The loop's invariant: the first v nodes are counted, each at its root. A count is at most v, so it fits.
-- Assumes nothing.
use native.Mathlib.Omega.{arith}
use Rattle.shape.proofs.Laws as laws
use Rattle.shape.proofs.tally.Goals as goal

pub overflow_add-count : goal.overflow_add-count
overflow_add-count c =
    let here = laws.tally_here c.args.roots.now c.args.n c.loop-more-test.true in
    omega (arith, c.at-count.ensures, laws.count_small c.requires.rooted c.loop-more.invariant here.0 here.1)

pub loop-more-preserved : goal.loop-more-preserved
loop-more-preserved c =
    let here = laws.tally_here c.args.roots.now c.args.n c.loop-more-test.true in
    let next = laws.counted_more c.requires.rooted c.loop-more.invariant here.0 here.1 in
    rw (c.put.ensures, c.at-count.ensures) next
