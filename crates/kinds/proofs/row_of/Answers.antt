-- `kinds::row_of` meets its contract: the table's rows, read as scope's, are scope's, and past it scope has no_row, which the other arm's row says.
-- Assumes nothing.
use mathlib.Core.Path.{◌≡◌, refl, sym, ap, ◌∙◌}
use mathlib.Core.List.{List, map}
use lib.ListN.{get_or, get_or-map}
use Rattle.scope.specs.Kinds.{Row, rows, no_row, row_of}
use Rattle.kinds.specs.declared.TheConstants.{ROWS, NO_ROW}
use Rattle.kinds.specs.Rows.{as_row}
use Rattle.kinds.proofs.Laws.{row_past}
use Rattle.kinds.proofs.row_of.Goals as goal

same_rows : map as_row ROWS ≡ rows
unfolding rows
same_rows = refl

pub returns-then-code-le-ERROR : goal.returns-then-code-le-ERROR
unfolding row_of
returns-then-code-le-ERROR c =
    sym (get_or-map as_row ROWS c.args.code NO_ROW) ∙ ap (λ (l : List Row). get_or l c.args.code no_row) same_rows

pub returns-else-code-le-ERROR : goal.returns-else-code-le-ERROR
returns-else-code-le-ERROR c = sym (row_past _ c.if-code-le-ERROR.false)
