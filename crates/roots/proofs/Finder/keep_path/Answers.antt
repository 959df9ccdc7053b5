-- `roots::Finder::keep_path` meets its contract. The invariant: the finder stays, and the node where the loop is has the root that is kept next.
-- Assumes nothing.
use Rattle.roots.proofs.PathLaws.{rooted_up}
use Rattle.roots.proofs.StaysLaws.{stays_then}
use Rattle.roots.proofs.Finder.keep_path.Goals as goal

pub loop-preserved : goal.loop-preserved
loop-preserved c =
    let stays = stays_then c.loop.invariant.0 c.keep.ensures in (
      stays,
      rw stays.nodes (
          rooted_up c.args.self.now.linked (rw c.loop.invariant.0.nodes at c.loop.invariant.1)
          c.node.ensures c.in-Child.is c.inv.ensures c.invert_if-top.ensures c.idx-cur.ensures
          ),
    )
