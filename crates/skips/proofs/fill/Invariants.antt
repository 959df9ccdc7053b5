-- `skips::fill` meets its contract. The loop's invariant: what the skips pass over they passed over before, or it is a part of the run.
-- Assumes nothing.
use Rattle.skips.specs.Table.{Filled}
use Rattle.skips.proofs.fill.Given as goal

abbrev pub invariant-loop-x : goal.invariant-loop-x
invariant-loop-x l = Filled l.initial.skip l.skip l.s l.t
