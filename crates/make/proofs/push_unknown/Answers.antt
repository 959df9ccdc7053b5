-- `make::push_unknown` meets its contract. The slot behind the nodes has no word but 0, so an Unknown is put there by three, and the counts are written alone.
-- Assumes nothing.
use mathlib.Core.Path.{refl}
use borrow.Author.Rules.{rules}
use Rattle.make.proofs.MakeLaws.{counted_push}
use Rattle.make.proofs.push_unknown.Goals as goal

pub returns : goal.returns
returns c =
    counted_push c.requires.pushable.head (search rules) c.nodes_made-n.ensures c.children_made-children.ensures refl
    c.put_unknown.ensures
    c.put_counts.ensures
