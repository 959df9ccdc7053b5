-- `layout::put_node` meets its contract. Past the nodes nothing is written; the part that is lent is one node's, and the cell's words come back in it.
-- Assumes nothing.
use borrow.Author.Tests.{le-ltb}
use Rattle.layout.specs.Meaning.{put_at}
use Rattle.layout.proofs.Cells.{put_words}
use Rattle.layout.proofs.put_node.Goals as goal

pub returns-then-n-i : goal.returns-then-n-i
unfolding put_at
returns-then-n-i c = rw (le-ltb _ _ c.if-n-i.true)

pub returns : goal.returns
returns c = put_words _ _ _ c.requires c.if-n-i.false c.args.node c.cell_of-c.ensures
