-- `heed::find` meets its contract: what is near changes no node, and otherwise nothing is believed any more.
-- Assumes nothing.
use Rattle.heed.proofs.Laws.{found_near, found_far}
use Rattle.heed.proofs.find.Goals as goal

pub returns-in_default : goal.returns-in_default
returns-in_default c = found_far c.changed.ensures c.find_mut.ensures

pub returns : goal.returns
returns c =
    found_near c.requires.0 c.requires.1 c.near.ensures c.in-Some.is
