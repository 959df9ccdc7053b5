-- `tested_over::make_over` meets its contract: a refusal writes nothing, and a kind that passes is the one that the core is given.
-- Assumes nothing.
use mathlib.Core.List.{[]}
use Rattle.refusals.proofs.Laws.{err_told}
use Rattle.tested_over.proofs.Laws.{over_row, over_told, over_refused, over_full, over_ready, over_made}
use Rattle.tested_over.proofs.make_over.Goals as goal

pub test_plain-requires-clause-code_value : goal.test_plain-requires-clause-code_value
test_plain-requires-clause-code_value c = let a = c.args in
    over_row a.chart.now a.h.now a.ws.now a.ks.now a.types.now a.code a.number c.requires.code_value c.plain_args.ensures
    c.flagged-k.ensures

pub returns-in_err-test_plain : goal.returns-in_err-test_plain
returns-in_err-test_plain c = let a = c.args in
    rw (err_told c.from_residual.result c.from_residual.ensures.1)
    (over_refused a.chart.now a.h.now a.ws.now a.ks.now a.types.now a.code a.number c.requires.code_value
    (over_told a.chart.now a.h.now a.ws.now a.ks.now a.types.now a.code a.number c.requires.code_value c.plain_args.ensures
    c.flagged-k.ensures c.in_err-test_plain.ensures))

pub returns-in_err-room : goal.returns-in_err-room
returns-in_err-room c = let a = c.args in
    rw (err_told c.from_residual-in_err-room.result c.from_residual-in_err-room.ensures.1)
    (over_full a.chart.now a.h.now a.ws.now a.ks.now a.types.now a.code a.number c.requires.code_value
    (over_told a.chart.now a.h.now a.ws.now a.ks.now a.types.now a.code a.number c.requires.code_value c.plain_args.ensures
    c.flagged-k.ensures c.in_ok-test_plain.ensures)
    c.in_err-room.ensures)

pub new_listed-requires : goal.new_listed-requires
new_listed-requires c = let a = c.args in
    over_ready a.chart.now a.h.now a.ws.now a.ks.now a.types.now a.code a.number c.requires.code_value
    (over_told a.chart.now a.h.now a.ws.now a.ks.now a.types.now a.code a.number c.requires.code_value c.plain_args.ensures
    c.flagged-k.ensures c.in_ok-test_plain.ensures)
    c.in_ok-room.ensures c.plain_args.ensures c.flagged-k.ensures c.requires.ready [] []

pub returns : goal.returns
returns c = let a = c.args in
    over_made a.chart.now a.h.now a.ws.now a.ks.now a.types.now a.code a.number c.requires.code_value
    (over_told a.chart.now a.h.now a.ws.now a.ks.now a.types.now a.code a.number c.requires.code_value c.plain_args.ensures
    c.flagged-k.ensures c.in_ok-test_plain.ensures)
    c.in_ok-room.ensures c.plain_args.ensures c.flagged-k.ensures c.new_listed.ensures
