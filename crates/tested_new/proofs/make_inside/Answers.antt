-- `tested_new::make_inside` meets its contract: a refusal writes nothing, and a kind that passes is the one that the core is given.
-- Assumes nothing.
use Rattle.refusals.proofs.Laws.{err_told}
use Rattle.tested_over.proofs.CallLaws.{inside_full, inside_ready, inside_made}
use Rattle.tested_new.proofs.make_inside.Goals as goal

pub returns-in_err-room : goal.returns-in_err-room
returns-in_err-room c = let a = c.args in let l = a.env.now in
    rw (err_told c.from_residual-in_err-room.result c.from_residual-in_err-room.ensures.1)
    (inside_full l.chart.now l.texts.rule.now l.texts.chart.now a.h.now a.ws.now a.ks.now a.k a.entries.now c.in_ok-test_kind.ensures (rw c.entry_count.ensures at c.in_err-room.ensures))

pub new_kind-requires : goal.new_kind-requires
new_kind-requires c = let a = c.args in let l = a.env.now in
    inside_ready l.chart.now l.texts.rule.now l.texts.chart.now a.h.now a.ws.now a.ks.now a.k a.entries.now c.in_ok-test_kind.ensures (rw c.entry_count.ensures at c.in_ok-room.ensures)
    c.flagged.ensures c.requires.ready

pub returns : goal.returns
returns c = let a = c.args in let l = a.env.now in
    inside_made l.chart.now l.texts.rule.now l.texts.chart.now a.h.now a.ws.now a.ks.now a.k a.entries.now c.in_ok-test_kind.ensures (rw c.entry_count.ensures at c.in_ok-room.ensures)
    c.flagged.ensures c.new_kind.ensures
