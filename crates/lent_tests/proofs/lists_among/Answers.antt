-- `lent_tests::lists_among` meets its contract: either list may be turned back by 3, and either by 4.
-- Assumes nothing.
use mathlib.Core.Path.{refl}
use Rattle.lent_tests.proofs.Laws.{among_row, row_told}
use Rattle.lent_tests.proofs.lists_among.Goals.{then-not-types_inside, else-not-types_inside, then-too_many, else-too_many}
use Rattle.lent_tests.proofs.lists_among.Goals as goal

pub returns : goal.returns
returns c =
    λ o l. row_told (among_row o _ _) (λ ns m. elim c.if-not-types_inside.branch [
      | then-not-types_inside w ↦ rw (w.outside-is, ← c.types_inside.ensures o.nodes l, w.if-not-types_inside.true) refl
      | else-not-types_inside w ↦ rw (w.outside-is, ← c.types_inside.ensures o.nodes l, w.if-not-types_inside.false, ← w.types_inside-else-not-types_inside.ensures ns m) refl
    ]) (elim c.if-too_many.branch [
      | then-too_many w ↦ rw (w.unmakeable-is, ← c.too_many.ensures, w.if-too_many.true) refl
      | else-too_many w ↦ rw (w.unmakeable-is, ← c.too_many.ensures, w.if-too_many.false, ← w.too_many-unmakeable.ensures) refl
    ]) refl c.first.ensures
