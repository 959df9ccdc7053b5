-- `call_states::tested::drop_name` meets its contract: an unheld name is turned back, and else its place becomes free.
-- Assumes nothing.
use mathlib.Core.Path.{refl, sym, ◌∙◌}
use Rattle.book.proofs.Search.{found_is, found_none}
use Rattle.call_states.proofs.tested.Laws.{names_book_clean}
use Rattle.call_states.proofs.tested.CallLaws.{drop_unheld, drop_ready, drop_done}
use Rattle.call_states.proofs.tested.drop_name.Goals as goal

pub held_place-requires : goal.held_place-requires
held_place-requires c = names_book_clean c.requires

pub returns-in_default : goal.returns-in_default
returns-in_default c = drop_unheld c.requires c.args.name.now refl (found_none (sym c.held_place.ensures ∙ c.in_default.is))

pub drop_name-requires : goal.drop_name-requires
drop_name-requires c =
    let place = found_is (sym c.held_place.ensures ∙ c.in-Some.is) in
    drop_ready c.requires c.args.name.now (sym place.0) place.1

pub returns : goal.returns
returns c =
    let place = found_is (sym c.held_place.ensures ∙ c.in-Some.is) in
    drop_done c.requires c.args.name.now (sym place.0) place.1 c.drop_name.ensures
