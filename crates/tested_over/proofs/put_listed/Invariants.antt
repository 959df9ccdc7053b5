-- `tested_over::put_listed` meets its contract. The loop's invariant: the first i types stand as entries without names, and the slots before `first` and after
-- them are as they were.
-- Assumes nothing.
use Rattle.make.specs.Given.{Put}
use Rattle.tested_over.specs.Over.{entries_of}
use Rattle.tested_over.proofs.put_listed.Given as goal

abbrev pub invariant-loop-i : goal.invariant-loop-i
invariant-loop-i l = Put (entries_of l.types) l.first l.i l.initial.ks l.ks
