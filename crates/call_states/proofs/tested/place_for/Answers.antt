-- `call_states::tested::place_for` meets its contract: the place that is held under the name, or the first free one where none is.
-- Assumes nothing.
use borrow.Author.Rules.{rules}
use Rattle.book.specs.Words.{places_in}
use Rattle.book.proofs.Places.{places_length}
use Rattle.call_states.proofs.tested.PlaceLaws.{for_by}
use Rattle.call_states.proofs.tested.place_for.Goals as goal

pub returns : goal.returns
returns c = let a = c.args in
    for_by a.name.now (places_in a.bs.now) (places_length a.bs.now) c.find_name.ensures
    (λ e. search (rules, e)) (λ i e. search (rules, e))
