-- The words lent to unify are as many as the array has.
use Rattle.std.specs.Prelude.{ℕ}
use mathlib.Core.Path.{sym}
use lib.ListN.{length-replicate}
use Rattle.scope.specs.Limits.{SHEET_NODES}
use Rattle.recall.specs.Memory.{words_for}
use Rattle.sheet.proofs.main.Goals as goal

pub slice_bounds-serve-end-4 : goal.slice_bounds-serve-end-4
slice_bounds-serve-end-4 c = sym (length-replicate {A = ℕ} (words_for SHEET_NODES) 0)
