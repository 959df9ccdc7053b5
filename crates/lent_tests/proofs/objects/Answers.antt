-- `lent_tests::objects` meets its contract: either list of entries may be turned back by 3, and either by 4.
-- Assumes nothing.
use mathlib.Core.Bool.{true, false}
use mathlib.Core.Path.{refl}
use Rattle.lent_tests.proofs.Laws.{object_row, row_told}
use Rattle.lent_tests.proofs.objects.Goals.{then-not-entries_inside-via-then-not-entries_inside, then-not-entries_inside-via-else-not-entries_inside+then-not-entries_inside-2}
use Rattle.lent_tests.proofs.objects.Goals.{then-bad_entries, else-bad_entries}
use Rattle.lent_tests.proofs.objects.Goals as goal

pub returns-then-not-entries_inside : goal.returns-then-not-entries_inside
returns-then-not-entries_inside c =
    row_told (object_row _ _ _) {o = true} (λ ns m. elim c.then-not-entries_inside.branch [
      | then-not-entries_inside-via-then-not-entries_inside w ↦ rw (← c.entries_inside.ensures ns m, w.if-not-entries_inside.true) refl
      | then-not-entries_inside-via-else-not-entries_inside+then-not-entries_inside-2 w ↦
          let e = w.entries_inside-else-not-entries_inside.ensures ns m in
          rw (← c.entries_inside.ensures ns m, w.if-not-entries_inside.false, ← e, w.if-not-entries_inside-2.true) refl
    ]) refl refl refl

pub returns : goal.returns
returns c =
    row_told (object_row _ _ _) {o = false} {m = c.if-bad_entries.unmakeable}
    (λ ns m.
    let e = c.entries_inside-else-not-entries_inside.ensures ns m in
    rw (← c.entries_inside.ensures ns m, c.if-not-entries_inside.false, ← e, c.if-not-entries_inside-2.false) refl)
    (elim c.if-bad_entries.branch [
      | then-bad_entries w ↦ rw (w.unmakeable-is, ← c.bad_entries.ensures, w.if-bad_entries.true) refl
      | else-bad_entries w ↦ rw (w.unmakeable-is, ← c.bad_entries.ensures, w.if-bad_entries.false, ← w.bad_entries-unmakeable.ensures) refl
    ]) refl c.first.ensures
