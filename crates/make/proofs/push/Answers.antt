-- `make::push` meets its contract. The node is put behind the others, and the counts are written alone.
-- Assumes nothing.
use mathlib.Core.Path.{refl}
use borrow.Author.Rules.{rules}
use Rattle.make.proofs.MakeLaws.{counted_push}
use Rattle.make.proofs.push.Goals as goal

pub returns : goal.returns
returns c =
    counted_push c.requires.head (search rules) c.nodes_made-n.ensures c.children_made-children.ensures refl
    c.put_node.ensures c.put_counts.ensures
