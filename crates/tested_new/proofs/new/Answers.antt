-- `tested_new::new` meets its contract: 3 over all entries comes first, then the width; what passes is left to `make_inside`,
-- which looks at nothing beside the chart.
-- Assumes nothing.
use mathlib.Core.Path.{refl}
use Rattle.sound.specs.Tests.{env_lent}
use Rattle.store.specs.Entries.{entry_types}
use Rattle.lent_kind.specs.Lent.{given}
use Rattle.store.proofs.EntryLaws.{entries_long}
use Rattle.refusals.proofs.Laws.{err_told}
use Rattle.promise.proofs.RoomLaws.{lent_within}
use Rattle.lent_kind.proofs.Laws.{given_kids}
use Rattle.tested_over.proofs.CallLaws.{new_listed, new_promised}
use Rattle.tested_new.proofs.new.Goals as goal

pub returns-in_err-test_list : goal.returns-in_err-test_list
returns-in_err-test_list c = let a = c.args in let l = a.env.now in
    rw (err_told c.from_residual.result c.from_residual.ensures.1)
    (new_listed l.chart.now l.beside l.texts.rule.now l.texts.chart.now a.h.now a.ws.now a.ks.now (given a.k a.entries.now) c.requires.passed c.read_header-x.ensures
    (entry_types a.entries.now) (given_kids a.k a.entries.now) (entries_long a.entries.now) c.entries_inside-inside.ensures (rw c.entry_count.ensures at c.in_err-test_list.ensures))

pub make_inside-requires-clause-ready : goal.make_inside-requires-clause-ready
make_inside-requires-clause-ready c = let a = c.args in
    lent_within (env_lent a.env.now) a.h.now a.ws.now a.ks.now c.requires.passed

pub returns : goal.returns
returns c = let a = c.args in let l = a.env.now in
    new_promised l.chart.now l.beside l.texts.rule.now l.texts.chart.now a.h.now a.ws.now a.ks.now (given a.k a.entries.now) c.requires.passed c.read_header-x.ensures
    (entry_types a.entries.now) (given_kids a.k a.entries.now) (entries_long a.entries.now) c.entries_inside-inside.ensures (rw c.entry_count.ensures at c.in_ok-test_list.ensures)
    refl c.make_inside.ensures
