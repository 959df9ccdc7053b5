-- `roots::Finder::find` meets its contract: a root is its own; of another node the cache is asked.
-- Assumes nothing.
use Rattle.roots.proofs.KeptLaws.{found_root}
use Rattle.roots.proofs.StaysLaws.{stays_same}
use Rattle.roots.proofs.Finder.find.Goals as goal

pub returns-in-Root : goal.returns-in-Root
returns-in-Root c = (found_root c.args.t c.idx.ensures c.node.ensures c.in-Root.is, stays_same _)
