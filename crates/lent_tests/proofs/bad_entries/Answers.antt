-- `lent_tests::bad_entries` meets its contract: too many entries, numbers past the last whole one, or else names as an object's kind has them.
-- Assumes nothing.
use mathlib.Core.Path.{refl}
use Rattle.chart.specs.Env.{texts_lent}
use Rattle.lent_tests.proofs.Laws.{entries_many, entries_torn, entries_named}
use Rattle.lent_tests.proofs.bad_entries.Goals.{then-count-gt-MAX_LIST-via-then-count-gt-MAX_LIST, then-count-gt-MAX_LIST-via-else-count-gt-MAX_LIST+then-xs-ne0}
use Rattle.lent_tests.proofs.bad_entries.Goals as goal

pub returns-then-count-gt-MAX_LIST : goal.returns-then-count-gt-MAX_LIST
returns-then-count-gt-MAX_LIST c =
    let a = c.args in
    elim c.then-count-gt-MAX_LIST.branch [
      | then-count-gt-MAX_LIST-via-then-count-gt-MAX_LIST w ↦ entries_many a.xs.now (texts_lent a.env.now) c.entry_count-count.ensures w.if-count-gt-MAX_LIST.true
      | then-count-gt-MAX_LIST-via-else-count-gt-MAX_LIST+then-xs-ne0 w ↦ entries_torn a.xs.now (texts_lent a.env.now) w.if-xs-ne0.true
    ]

pub returns : goal.returns
returns c =
    let a = c.args in
    entries_named a.xs.now (texts_lent a.env.now) c.entry_count-count.ensures c.if-count-gt-MAX_LIST.false c.if-xs-ne0.false refl (rw c.bare_kind.ensures at c.names_fit.ensures)
