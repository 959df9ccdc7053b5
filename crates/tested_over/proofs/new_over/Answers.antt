-- `tested_over::new_over` meets its contract: 3 over all types comes first, then the width; the kind over the list is then made.
-- Assumes nothing.
use Rattle.kinds.specs.Rows.{names_number}
use Rattle.refusals.proofs.Laws.{err_told}
use Rattle.tested_over.proofs.Laws.{row_names, unnamed, over_listed, over_done, over_within}
use Rattle.tested_over.proofs.new_over.Goals as goal

pub returns-in_err-test_list : goal.returns-in_err-test_list
returns-in_err-test_list c =
    let d = c.row_of.result.names in
    let row = row_names c.row_of.result c.args.code c.row_of.ensures in
    rw (err_told c.from_residual.result c.from_residual.ensures.1)
    (over_listed c.args.chart.now c.args.h.now c.args.ws.now c.args.ks.now c.args.types.now c.args.code c.args.number (names_number d) row
    (unnamed d c.ne.ensures c.if-ne.false) c.read_header-x.ensures c.types_inside-inside.ensures c.in_err-test_list.ensures)

pub make_over-requires-clause-ready : goal.make_over-requires-clause-ready
make_over-requires-clause-ready c = over_within c.requires

pub returns : goal.returns
returns c =
    let d = c.row_of.result.names in
    let row = row_names c.row_of.result c.args.code c.row_of.ensures in
    over_done c.args.chart.now c.args.h.now c.args.ws.now c.args.ks.now c.args.types.now c.args.code c.args.number (names_number d) row
    (unnamed d c.ne.ensures c.if-ne.false) c.read_header-x.ensures c.types_inside-inside.ensures c.in_ok-test_list.ensures c.make_over.ensures
