-- `marks::tell` meets its contract. The invariant: no byte changed but those of marked nodes.
-- Assumes nothing.
use mathlib.Core.Path.{◌≡◌}
use lib.ListN.{length}
use Rattle.marks.specs.Marks.{Tells}
use Rattle.marks.proofs.tell.Given as goal

abbrev pub invariant-loop-p : goal.invariant-loop-p
invariant-loop-p l = (length l.found ≡ length l.initial.found) × Tells l.m l.initial.found l.found
