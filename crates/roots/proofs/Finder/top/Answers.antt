-- `roots::Finder::top` meets its contract. The invariant: a path of the node where the climb is gives one of the node where it began.
-- Assumes nothing.
use Rattle.roots.proofs.PathLaws.{rises_up, rises_kept, rises_root}
use Rattle.roots.proofs.Finder.top.Goals as goal

pub returns-in-Some : goal.returns-in-Some
returns-in-Some c =
    rises_kept c.loop.invariant _ (c.kept.ensures.told _ c.in-Some.is) c.invert_if.ensures

pub returns-in_default-node : goal.returns-in_default-node
returns-in_default-node c =
    rises_root c.loop.invariant _ c.node.ensures c.in_default-node.is c.new.ensures

pub loop-preserved : goal.loop-preserved
loop-preserved c =
    rises_up c.loop.invariant c.args.self.now.linked c.node.ensures c.in-Child.is c.inv.ensures c.bitxor-inv.ensures c.idx-cur.ensures
