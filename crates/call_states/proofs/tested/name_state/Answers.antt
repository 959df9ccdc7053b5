-- `call_states::tested::name_state` meets its contract: a wrong length is turned back, then a name without a place, and else the state is held.
-- Assumes nothing.
use mathlib.Core.Path.{refl, sym, ◌∙◌}
use Rattle.book.proofs.Search.{found_is, found_none}
use Rattle.call_states.proofs.tested.Laws.{names_book_clean}
use Rattle.call_states.proofs.tested.CallLaws.{name_wrong, name_full, name_ready, name_done}
use Rattle.call_states.proofs.tested.name_state.Goals as goal

pub returns-then-not-name_fits : goal.returns-then-not-name_fits
returns-then-not-name_fits c =
    name_wrong c.requires c.args.name.now (sym c.name_fits.ensures ∙ c.if-not-name_fits.true)

pub place_for-requires : goal.place_for-requires
place_for-requires c = names_book_clean c.requires

pub returns-in_default : goal.returns-in_default
returns-in_default c =
    name_full c.requires c.args.name.now (sym c.name_fits.ensures ∙ c.if-not-name_fits.false) refl (found_none (sym c.place_for.ensures ∙ c.in_default.is))

pub name_state-requires : goal.name_state-requires
name_state-requires c =
    let place = found_is (sym c.place_for.ensures ∙ c.in-Some.is) in
    name_ready c.requires c.args.name.now (sym c.name_fits.ensures ∙ c.if-not-name_fits.false) (sym place.0) place.1

pub returns : goal.returns
returns c =
    let place = found_is (sym c.place_for.ensures ∙ c.in-Some.is) in
    name_done c.requires c.args.name.now (sym c.name_fits.ensures ∙ c.if-not-name_fits.false) (sym place.0) place.1 c.name_state.ensures
