-- `tested_import::import` meets its contract: both lists, what is needed of stores that are sound, and 7 comes last; where nothing stands the copying is asked
-- of what passed.
-- Assumes nothing.
use Rattle.refusals.proofs.Laws.{err_told}
use Rattle.copy_parts.specs.Places.{params_in}
use Rattle.tested_import.proofs.TestLaws.{stores_tested, lists_told}
use Rattle.tested_import.proofs.Laws.{refused_lists, needs_asks, refused_needs, import_back, import_short, import_ready, import_done}
use Rattle.tested_import.proofs.import.Goals as goal

pub returns-in_err-lists_among : goal.returns-in_err-lists_among
returns-in_err-lists_among c = rw (err_told c.from_residual.result c.from_residual.ensures.1)
    (import_back _ _ _ _ _ _ _ _ _ _ (refused_lists _ _ (stores_tested c.requires.tested c.requires.tested_2) c.read_header-from.ensures c.read_header-x.ensures
    (lists_told _ (params_in c.args.params) c.entries_of.ensures c.in_err-lists_among.ensures)))

pub invariant_of-nodes : goal.invariant_of-nodes
invariant_of-nodes c =
    let asks = needs_asks _ (params_in c.args.params) (stores_tested c.requires.tested c.requires.tested_2) c.read_header-from.ensures c.read_header-x.ensures
    (lists_told _ (params_in c.args.params) c.entries_of.ensures c.in_ok-lists_among.ensures) in
    record { room = asks.0.readable.clean.room }

pub needed-requires : goal.needed-requires
needed-requires c = needs_asks _ (params_in c.args.params) (stores_tested c.requires.tested c.requires.tested_2) c.read_header-from.ensures c.read_header-x.ensures
    (lists_told _ (params_in c.args.params) c.entries_of.ensures c.in_ok-lists_among.ensures)

pub returns-in_err-needed : goal.returns-in_err-needed
returns-in_err-needed c = rw (err_told c.from_residual-in_err-needed.result c.from_residual-in_err-needed.ensures.1)
    (import_back _ _ _ _ _ _ _ _ _ _ (refused_needs _ _ (stores_tested c.requires.tested c.requires.tested_2) c.read_header-from.ensures c.read_header-x.ensures
    (lists_told _ (params_in c.args.params) c.entries_of.ensures c.in_ok-lists_among.ensures) c.in_err-needed.ensures))

pub returns-then-out-ts : goal.returns-then-out-ts
returns-then-out-ts c = import_short _ _ _ _ _ _ _ _ _ _ (refused_needs _ _ (stores_tested c.requires.tested c.requires.tested_2) c.read_header-from.ensures c.read_header-x.ensures
    (lists_told _ (params_in c.args.params) c.entries_of.ensures c.in_ok-lists_among.ensures) c.in_ok-needed.ensures) c.if-out-ts.true

pub import-requires : goal.import-requires
import-requires c = import_ready _ _ _ _ _ _ _ _ _ _ (refused_needs _ _ (stores_tested c.requires.tested c.requires.tested_2) c.read_header-from.ensures c.read_header-x.ensures
    (lists_told _ (params_in c.args.params) c.entries_of.ensures c.in_ok-lists_among.ensures) c.in_ok-needed.ensures)
    c.if-out-ts.false c.read_header-from.ensures

pub returns : goal.returns
returns c = import_done _ _ _ _ _ _ _ _ _ _ (refused_needs _ _ (stores_tested c.requires.tested c.requires.tested_2) c.read_header-from.ensures c.read_header-x.ensures
    (lists_told _ (params_in c.args.params) c.entries_of.ensures c.in_ok-lists_among.ensures) c.in_ok-needed.ensures)
    c.if-out-ts.false c.read_header-from.ensures c.import.ensures
