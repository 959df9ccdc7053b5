-- `roots::near` meets its contract: a root, a root's child, or neither, of which nothing is said.
-- Assumes nothing.
use Rattle.roots.proofs.Laws.{is_root_lem, under_root}
use Rattle.roots.proofs.near.Goals as goal

pub returns-in_default : goal.returns-in_default
returns-in_default c = is_root_lem c.idx.ensures c.node_at.ensures c.in_default.is

pub returns-in-Root : goal.returns-in-Root
returns-in-Root c =
    under_root c.idx.ensures c.node_at.ensures c.requires c.in-Child.is c.idx-2.ensures c.node_at-2.ensures c.in-Root.is
    c.inv.ensures c.invert_if.ensures
