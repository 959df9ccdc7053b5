-- `book_sound::name_clean` meets its contract: a length that fits leaves the words of the name and those behind it.
-- Assumes nothing.
use mathlib.Core.Path.{sym, ◌∙◌}
use Rattle.std.proofs.Common.{arith}
use Rattle.book_sound.proofs.PlaceLaws.{name_long, name_first, name_last}
use Rattle.book_sound.proofs.name_clean.Goals as goal
use Rattle.book_sound.proofs.name_clean.Goals.{then-n-le-MAX_STATE_NAME, else-n-le-MAX_STATE_NAME}

pub returns-then-below : goal.returns-then-below
returns-then-below c =
    let l = c.name_length-n.ensures in
    elim c.if-n-le-MAX_STATE_NAME.branch [
      | then-n-le-MAX_STATE_NAME w ↦
          name_last c.args.ps.now c.name_length-n.result l (omega (arith, w.if-n-le-MAX_STATE_NAME.true)) w.below.result w.below.ensures (sym w.value-is ∙ c.if-below.true)
          c.below-then-below.result c.below-then-below.ensures
      | else-n-le-MAX_STATE_NAME w ↦ absurd (grind (arith, w.value-is, w.if-n-le-MAX_STATE_NAME.false, c.if-below.true))
    ]

pub returns-else-below : goal.returns-else-below
returns-else-below c =
    let l = c.name_length-n.ensures in
    elim c.if-n-le-MAX_STATE_NAME.branch [
      | then-n-le-MAX_STATE_NAME w ↦
          w.value-is ∙ name_first c.args.ps.now c.name_length-n.result l (omega (arith, w.if-n-le-MAX_STATE_NAME.true)) w.below.result w.below.ensures (sym w.value-is ∙ c.if-below.false)
      | else-n-le-MAX_STATE_NAME w ↦ c.if-below.false ∙ sym (name_long c.args.ps.now (omega (arith, l, w.if-n-le-MAX_STATE_NAME.false)))
    ]
