-- What is left of the numbers gets less.
use Rattle.std.proofs.Common.{length}
use Rattle.run_calls.proofs.turns.Given as goal

abbrev pub decreases-loop-l : goal.decreases-loop-l
decreases-loop-l g l = length l.rest
