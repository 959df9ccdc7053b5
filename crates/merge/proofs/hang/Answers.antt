-- `merge::hang` meets its contract: another size for the one, and a parent for the other.
-- Assumes nothing.
use Rattle.merge.proofs.QuickLaws.{hang_law}
use Rattle.merge.proofs.hang.Goals as goal

pub returns : goal.returns
returns c =
    hang_law _ _ _ _ _ _ _ _ _ _ _ c.requires c.resize.auto.ws c.inv-inv.ensures c.invert_if-parent.ensures c.idx.ensures c.idx-2.ensures c.resize.ensures
    c.put_node.ensures
