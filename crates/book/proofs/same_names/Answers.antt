-- `book::same_names` meets its contract: a free place has no name, names of other lengths are others, and those of one length are compared as slices.
-- Assumes nothing.
use mathlib.Core.Path.{◌∙◌}
use Rattle.book.specs.Words.{name_bytes_in}
use Rattle.book.proofs.Names.{told_free, told_slices, told_others, not_free}
use Rattle.book.proofs.same_names.Goals as goal
use Rattle.book.proofs.same_names.Goals.{then-length-ne0, else-length-ne0}

pub returns-then-length-name_length : goal.returns-then-length-name_length
returns-then-length-name_length c = let a = c.args in
    let n = c.name_length-length.ensures in
    elim c.if-length-ne0.branch [
      | then-length-ne0 w ↦
          told_slices a.ps.now a.other.now c.requires.0 c.requires.1 n w.name_length.ensures w.value-is c.if-length-name_length.true w.if-length-ne0.true c.eq.ensures
      | else-length-ne0 w ↦ absurd (not_free w.value-is c.if-length-name_length.true w.if-length-ne0.false)
    ]

pub returns-else-length-name_length : goal.returns-else-length-name_length
returns-else-length-name_length c = let a = c.args in
    let n = c.name_length-length.ensures in
    elim c.if-length-ne0.branch [
      | then-length-ne0 w ↦
          told_others a.ps.now a.other.now c.requires.0 c.requires.1 n w.name_length.ensures w.value-is c.if-length-name_length.false w.if-length-ne0.true
      | else-length-ne0 w ↦ w.value-is ∙ told_free a.ps.now (name_bytes_in a.other.now) c.requires.0 n w.if-length-ne0.false
    ]
