-- What was read lies within the buffer; a read that gives nothing ends the loop, so that what is left falls.
use Rattle.std.proofs.Common.{◌≤◌, ◌-◌, length}
use Rattle.run_calls.proofs.read_input.Given as goal

abbrev pub invariant-loop-at : goal.invariant-loop-at
invariant-loop-at g l = l.at ≤ length l.input

abbrev pub decreases-loop-at : goal.decreases-loop-at
decreases-loop-at g l = length l.input - l.at
