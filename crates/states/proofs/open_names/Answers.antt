-- `states::open_names` meets its contract: the capacities are written, and every place is free.
-- Assumes nothing.
use Rattle.states.proofs.FreeLaws.{open_became}
use Rattle.states.proofs.open_names.Goals as goal

pub returns : goal.returns
returns c =
    open_became c.args.bs.now c.args.room.nodes c.args.room.children c.requires c.free_all.ensures
