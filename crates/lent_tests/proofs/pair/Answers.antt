-- `lent_tests::pair` meets its contract: either type may be outside.
-- Assumes nothing.
use mathlib.Core.Path.{refl}
use Rattle.lent_tests.proofs.Laws.{pair_row, row_told}
use Rattle.lent_tests.proofs.pair.Goals.{then-not-type_inside, else-not-type_inside}
use Rattle.lent_tests.proofs.pair.Goals as goal

pub returns : goal.returns
returns c =
    row_told (pair_row _ _) (λ ns m. elim c.if-not-type_inside.branch [
      | then-not-type_inside w ↦ rw (w.outside-is, ← c.type_inside.ensures ns m, w.if-not-type_inside.true) refl
      | else-not-type_inside w ↦ rw (w.outside-is, ← c.type_inside.ensures ns m, w.if-not-type_inside.false, ← w.type_inside-else-not-type_inside.ensures ns m) refl
    ]) refl refl c.first.ensures
