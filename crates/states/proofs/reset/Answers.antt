-- `states::reset` meets its contract: the store is emptied, and every place is free.
-- Assumes nothing.
use Rattle.states.proofs.FreeLaws.{reset_enough, reset_became}
use Rattle.states.proofs.reset.Goals as goal

pub free_all-requires : goal.free_all-requires
free_all-requires c =
    reset_enough c.args.bs.now c.requires.book c.room_of-room.ensures

pub returns : goal.returns
returns c =
    record { store = c.reset.ensures; book = reset_became c.requires.book c.room_of-room.ensures c.free_all.ensures }
