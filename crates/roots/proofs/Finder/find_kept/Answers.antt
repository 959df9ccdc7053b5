-- `roots::Finder::find_kept` meets its contract: a root that is kept is the node's.
-- Assumes nothing.
use Rattle.roots.proofs.KeptLaws.{found_flip}
use Rattle.roots.proofs.StaysLaws.{stays_same}
use Rattle.roots.proofs.Finder.find_kept.Goals as goal

pub returns-in-Some : goal.returns-in-Some
returns-in-Some c =
    (found_flip c.args.t c.idx.ensures c.inv.ensures (c.kept.ensures.told _ c.in-Some.is) c.invert_if.ensures, stays_same _)
