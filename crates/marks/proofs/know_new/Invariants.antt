-- `marks::know_new` meets its contract. The invariant: no mark is new but those of nodes whose byte is 1.
-- Assumes nothing.
use mathlib.Core.Path.{◌≡◌}
use lib.ListN.{length}
use Rattle.marks.specs.Marks.{MarkedNew}
use Rattle.marks.proofs.know_new.Given as goal

abbrev pub invariant-loop-k : goal.invariant-loop-k
invariant-loop-k l = (length l.m ≡ length l.initial.m) × MarkedNew l.initial.m l.m l.found
