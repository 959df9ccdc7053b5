-- `records::copy_all` meets its contract. The invariant: the first i records are stored, ten words each.
-- Assumes nothing.
use mathlib.Core.Path.{◌≡◌}
use Rattle.records.proofs.Laws.{stored}
use Rattle.records.proofs.copy_all.Given as goal

abbrev pub invariant-loop-i : goal.invariant-loop-i
invariant-loop-i l = l.words ≡ stored l.initial.words l.records l.i
