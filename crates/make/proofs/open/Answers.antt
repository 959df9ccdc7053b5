-- `make::open` meets its contract. All words that the capacities need are cleared, and the header says that no node is made.
-- Assumes nothing.
use Rattle.make.proofs.OpenLaws.{open_became}
use Rattle.make.proofs.open.Goals as goal

pub returns : goal.returns
returns c =
    open_became c.requires c.node_words.ensures c.clear.ensures c.child_words.ensures c.clear-2.ensures
    c.no_nodes.ensures c.write_header.ensures
