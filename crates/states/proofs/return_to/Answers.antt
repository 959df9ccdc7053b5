-- `states::return_to` meets its contract: a held place's parts are a clean store within the capacities, and that store is put back.
-- Assumes nothing.
use native.Mathlib.Omega.{arith}
use Rattle.states.proofs.ReturnLaws.{return_lies, return_words, return_back, return_became}
use Rattle.states.proofs.return_to.Goals as goal

pub place-ps-requires : goal.place-ps-requires
place-ps-requires c =
    return_lies c.requires c.room_of-room.ensures

pub head_of-requires : goal.head_of-requires
head_of-requires c =
    omega (arith, return_words c.requires c.room_of-room.ensures c.place-ps.ensures)

pub nodes_of-requires : goal.nodes_of-requires
nodes_of-requires c =
    omega (arith, return_words c.requires c.room_of-room.ensures c.place-ps.ensures)

pub kids_of-requires : goal.kids_of-requires
kids_of-requires c =
    omega (arith, return_words c.requires c.room_of-room.ensures c.place-ps.ensures)

pub put_back-requires : goal.put_back-requires
put_back-requires c =
    return_back c.requires c.room_of-room.ensures c.place-ps.ensures c.head_of.ensures c.nodes_of.ensures c.kids_of.ensures

pub returns : goal.returns
returns c =
    return_became c.requires c.room_of-room.ensures c.place-ps.ensures c.head_of.ensures c.nodes_of.ensures c.kids_of.ensures
    c.put_back.ensures
