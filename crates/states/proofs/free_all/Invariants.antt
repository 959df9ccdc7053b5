-- `states::free_all` meets its contract. The invariant: the first i places are free, and all else that is asked for is as it was.
-- Assumes nothing.
use Rattle.states.specs.Free.{FreeTo}
use Rattle.states.proofs.free_all.Given as goal

abbrev pub invariant-loop-i : goal.invariant-loop-i
invariant-loop-i l = FreeTo l.initial.bs l.bs l.room.nodes l.room.children l.i
