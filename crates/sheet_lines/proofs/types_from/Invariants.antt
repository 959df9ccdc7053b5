-- `sheet_lines::types_from` meets its contract. The types written so far and those of the words to come are those of all the words; each took two bytes or more.
-- Assumes nothing.
use mathlib.Core.Path.{◌≡◌}
use mathlib.Core.List.{map}
use Prim.Native.Nat.{◌+◌, ◌*◌, ◌≤◌}
use lib.ListN.{length, drop}
use Rattle.scope.specs.Types.{ty_of}
use Rattle.scope.specs.Sheet.{words, type_words}
use Rattle.sheet_lines.proofs.Laws as laws
use Rattle.sheet_lines.proofs.types_from.Given as goal

abbrev pub invariant-loop-w : goal.invariant-loop-w
invariant-loop-w l = (length l.types.items ≡ length l.yielded)
    × (2 * length l.yielded + laws.weight (drop (length l.yielded) (words (drop l.from l.line))) ≤ length l.line + 1)
    × (laws.onto (map ty_of l.types.items) (type_words (drop (length l.yielded) (words (drop l.from l.line)))) ≡ type_words (words (drop l.from l.line)))
