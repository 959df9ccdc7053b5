-- `book_sound::lent` meets its contract: chart and store are tested first, and each way out has its law.
-- Assumes nothing.
use mathlib.Core.Path.{sym, ◌∙◌}
use Rattle.book.specs.Words.{lent_book_of}
use Rattle.book_sound.proofs.Laws.{names_unsound, names_pass}
use Rattle.book_sound.proofs.lent.Goals as goal

pub returns-then-not-book_sound : goal.returns-then-not-book_sound
returns-then-not-book_sound c = let a = c.args in
    names_unsound a.env.now a.h.now a.ws.now a.ks.now (lent_book_of a.bs.now) c.in_ok-lent.ensures
    (sym c.book_sound.ensures ∙ c.if-not-book_sound.true)

pub returns : goal.returns
returns c = let a = c.args in
    names_pass a.env.now a.h.now a.ws.now a.ks.now (lent_book_of a.bs.now) c.in_ok-lent.ensures
    (sym c.book_sound.ensures ∙ c.if-not-book_sound.false)
