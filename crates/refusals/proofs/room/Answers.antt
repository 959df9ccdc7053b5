-- `refusals::room` meets its contract: the tests look at the header alone.
-- Assumes nothing.
use Rattle.refusals.proofs.RoomLaws.{room_told}
use Rattle.refusals.proofs.room.Goals as goal

pub returns : goal.returns
returns c = λ ws ks.
    let a = c.args in
    room_told a.h.now ws ks c.read_header.result c.read_header.ensures a.nodes a.children c.room_by.ensures
