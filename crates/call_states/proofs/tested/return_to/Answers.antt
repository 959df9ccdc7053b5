-- `call_states::tested::return_to` meets its contract: an unheld name is turned back, and else the state of its place is put back.
-- Assumes nothing.
use mathlib.Core.Path.{refl, sym, ◌∙◌}
use Rattle.book.proofs.Search.{found_is, found_none}
use Rattle.call_states.proofs.tested.Laws.{names_book_clean}
use Rattle.call_states.proofs.tested.CallLaws.{return_unheld, return_ready, return_done}
use Rattle.call_states.proofs.tested.return_to.Goals as goal

pub held_place-requires : goal.held_place-requires
held_place-requires c = names_book_clean c.requires

pub returns-in_default : goal.returns-in_default
returns-in_default c = return_unheld c.requires c.args.name.now refl (found_none (sym c.held_place.ensures ∙ c.in_default.is))

pub return_to-requires : goal.return_to-requires
return_to-requires c =
    let place = found_is (sym c.held_place.ensures ∙ c.in-Some.is) in
    return_ready c.requires c.args.name.now (sym place.0) place.1

pub returns : goal.returns
returns c =
    let place = found_is (sym c.held_place.ensures ∙ c.in-Some.is) in
    return_done c.requires c.args.name.now (sym place.0) place.1 c.return_to.ensures
