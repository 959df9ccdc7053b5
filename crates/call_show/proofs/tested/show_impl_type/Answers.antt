-- `call_show::tested::show_impl_type` meets its contract: as `show`, with 4 for a list that is too long and 5 for a number that is no trait's.
-- Assumes nothing.
use borrow.Author.Rules.{rules}
use Rattle.refusals.proofs.Laws.{err_told}
use Rattle.promise.proofs.Laws.{none_listed}
use Rattle.call_show.proofs.tested.Laws.{read_stands, impl_back, impl_done}
use Rattle.call_show.proofs.tested.show_impl_type.Goals as goal

pub returns-in_err-one_impl : goal.returns-in_err-one_impl
returns-in_err-one_impl c =
    rw (err_told c.from_residual.result c.from_residual.ensures.1) (impl_back c.args.env.now _ c.requires _ c.read_header.ensures c.in_err-one_impl.ensures)

pub invariant_of-nodes : goal.invariant_of-nodes
invariant_of-nodes c = let stands = read_stands (none_listed c.requires) c.read_header.ensures in
    record { room = stands.clean.room }

pub show_impl_type-requires : goal.show_impl_type-requires
show_impl_type-requires c = read_stands (none_listed c.requires) c.read_header.ensures

pub returns : goal.returns
returns c =
    let said = impl_done c.args.env.now _ c.requires _ c.read_header.ensures c.in_ok-one_impl.ensures c.show_impl_type.ensures.text c.printed.ensures in
    search (rules, said)
