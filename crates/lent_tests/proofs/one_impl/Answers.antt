-- `lent_tests::one_impl` meets its contract: a trait may be turned back by 3, 4 and 5; an error passes them.
-- Assumes nothing.
use mathlib.Core.Path.{refl}
use mathlib.Core.Bool.{and-true, or-false}
use Rattle.lent_tests.proofs.Laws.{one_row, one_error, row_told}
use Rattle.lent_tests.proofs.one_impl.Goals as goal

pub returns-in-Trait : goal.returns-in-Trait
returns-in-Trait c =
    rw c.in-Trait.is
    (row_told (one_row _ _) (λ ns m. rw (and-true, c.types_inside.ensures ns m) refl) (rw (or-false, c.too_many.ensures) refl) (rw (and-true, c.is_trait.ensures) refl)
    c.first.ensures)

pub returns-in-Error : goal.returns-in-Error
returns-in-Error c = rw c.in-Error.is (one_error _)
