-- `roots::find_mut` meets its contract: what is near has no path, and otherwise `find_far` points it.
-- Assumes nothing.
use Rattle.roots.proofs.Laws.{near_left}
use Rattle.roots.proofs.find_mut.Goals as goal

pub returns-in-Some : goal.returns-in-Some
returns-in-Some c = near_left _ c.requires c.near.ensures c.in-Some.is
