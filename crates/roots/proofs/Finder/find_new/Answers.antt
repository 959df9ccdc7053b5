-- `roots::Finder::find_new` meets its contract: a root is its own, and a root's child has its parent, which is kept.
-- Assumes nothing.
use Rattle.roots.proofs.PathLaws.{rooted_child}
use Rattle.roots.proofs.KeptLaws.{found_root, found_flip}
use Rattle.roots.proofs.StaysLaws.{stays_same}
use Rattle.roots.proofs.Finder.find_new.Goals as goal

pub returns-in_default : goal.returns-in_default
returns-in_default c =
    (found_root c.args.t c.idx-i.ensures c.node.ensures c.in_default.is, stays_same _)

pub keep-requires : goal.keep-requires
keep-requires c =
    rooted_child c.args.self.now.linked c.node.ensures c.in-Child.is c.idx.ensures c.node-2.ensures c.in_default-node.is

pub returns-in_default-node : goal.returns-in_default-node
returns-in_default-node c =
    let own = rooted_child c.args.self.now.linked c.node.ensures c.in-Child.is c.idx.ensures c.node-2.ensures
    c.in_default-node.is in
    (found_flip c.args.t c.idx-i.ensures c.inv.ensures own c.invert_if.ensures, c.keep.ensures)
