-- `unify_lists::unify_all` meets its contract: the node count is the depth that scope's `unify` starts with.
-- Assumes nothing.
use Rattle.unify_lists.proofs.Laws.{whole_depth}
use Rattle.unify_lists.proofs.unify_all.Goals as goal

pub returns : goal.returns
returns c = whole_depth c.requires c.unify.ensures
