-- `roots::Finder::find_path` meets its contract: the root of its node, inverted as the type is.
-- Assumes nothing.
use Rattle.types.proofs.Laws.{idx_below}
use Rattle.roots.proofs.KeptLaws.{found_flip}
use Rattle.roots.proofs.Finder.find_path.Goals as goal

pub top-requires : goal.top-requires
top-requires c = rw c.idx-i.ensures (idx_below c.args.t.0)

pub returns : goal.returns
returns c =
    (found_flip c.args.t c.idx-i.ensures c.inv.ensures (c.top.ensures.told _ c.in-Some.is) c.invert_if.ensures, c.keep_path.ensures)
