-- `shape::tally` meets its contract. The loop's invariant: the first v nodes are counted, each at its root. A count is at most v, so it fits.
-- Assumes nothing.
use Rattle.shape.proofs.Laws as laws
use Rattle.shape.proofs.tally.Given as goal

abbrev pub invariant-loop-more : goal.invariant-loop-more
invariant-loop-more l = laws.Counted l.roots l.counts l.n l.more-index
