-- `states::drop_name` meets its contract: place i becomes free, and every other place stays.
-- Assumes nothing.
use Rattle.states.proofs.FreeLaws.{drop_lies, drop_became}
use Rattle.states.proofs.drop_name.Goals as goal

pub free_at-requires : goal.free_at-requires
free_at-requires c =
    drop_lies c.requires c.room_of-room.ensures

pub returns : goal.returns
returns c =
    drop_became c.requires c.room_of-room.ensures c.free_at.ensures
