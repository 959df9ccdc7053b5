-- `call_show::tested::show` meets its contract: a refusal is the first test that breaks and leaves the buffer as found; where none does, the core's text is the
-- definition's.
-- Assumes nothing.
use borrow.Author.Rules.{rules}
use Rattle.refusals.proofs.Laws.{err_told}
use Rattle.promise.proofs.Laws.{inside_tested}
use Rattle.call_show.proofs.tested.Laws.{read_stands, show_back, show_done}
use Rattle.call_show.proofs.tested.show.Goals as goal

pub returns-in_err-inside : goal.returns-in_err-inside
returns-in_err-inside c =
    rw (err_told c.from_residual.result c.from_residual.ensures.1) (show_back c.args.env.now _ _ (inside_tested c.requires c.in_err-inside.ensures))

pub invariant_of-nodes : goal.invariant_of-nodes
invariant_of-nodes c = let stands = read_stands (inside_tested c.requires c.in_ok-inside.ensures) c.read_header.ensures in
    record { room = stands.clean.room }

pub show_all-requires : goal.show_all-requires
show_all-requires c = read_stands (inside_tested c.requires c.in_ok-inside.ensures) c.read_header.ensures

pub returns : goal.returns
returns c =
    let said = show_done c.args.env.now _ _ (inside_tested c.requires c.in_ok-inside.ensures) c.read_header.ensures c.show_all.ensures.text c.printed.ensures in
    search (rules, said)
