-- `states::name_state` meets its contract: the words of place i are lent to `hold`, and once they hold the state the book does.
-- Assumes nothing.
use Rattle.states.proofs.NameLaws.{name_fits_in, name_hold, name_became}
use Rattle.states.proofs.name_state.Goals as goal

pub slice_bounds-hold-end : goal.slice_bounds-hold-end
slice_bounds-hold-end c =
    name_fits_in c.requires c.room_of-room.ensures c.place_from-a.ensures c.place_from-e.ensures

pub hold-requires : goal.hold-requires
hold-requires c =
    name_hold c.requires c.room_of-room.ensures c.place_from-a.ensures c.place_from-e.ensures

pub returns : goal.returns
returns c =
    name_became c.requires c.room_of-room.ensures c.place_from-a.ensures c.place_from-e.ensures c.hold.ensures
