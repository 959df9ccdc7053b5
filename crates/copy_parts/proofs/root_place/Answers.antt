-- `copy_parts::root_place` meets its contract: the table's number says whether there is a copy.
-- Assumes nothing.
use Rattle.copy_parts.proofs.PlaceLaws.{place_copied, place_new}
use Rattle.copy_parts.proofs.root_place.Goals as goal

pub returns-in-Some : goal.returns-in-Some
returns-in-Some c =
    place_copied c.idx.ensures c.copy_of.ensures c.inv.result c.requires c.in-Some.is c.inv.ensures c.new.ensures

pub returns-in-None : goal.returns-in-None
returns-in-None c =
    place_new c.idx.ensures c.copy_of.ensures c.in-None.is c.state_place.ensures
