-- `merge::slight` meets its contract: what `quick` merges, and two nodes of which one has no kind and the other no children.
-- Assumes nothing.
use borrow.Author.Rules.{rules}
use Rattle.merge.proofs.QuickLaws.{tried_slight}
use Rattle.merge.proofs.slight.Goals as goal

pub returns-in-Bare-Lone : goal.returns-in-Bare-Lone
returns-in-Bare-Lone c = tried_slight c.quick.ensures c.if-quick.false (search rules) c.bind.ensures
