-- `names::before` meets its contract. The loop's invariant: from i on the first list comes before the second if and only if it does as a whole.
-- Assumes nothing.
use mathlib.Core.Path.{◌≡◌}
use lib.ListN.{drop}
use Rattle.scope.specs.Names.{lt_bytes}
use Rattle.names.proofs.before.Given as goal

abbrev pub invariant-loop-i : goal.invariant-loop-i
invariant-loop-i l = lt_bytes (drop l.i l.a) (drop l.i l.b) ≡ lt_bytes l.a l.b
