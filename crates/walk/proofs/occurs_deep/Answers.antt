-- `walk::occurs_deep` meets its contract: what one walk from no marks tells.
-- Assumes nothing.
use Rattle.walk.proofs.Answers.{occurs_walk}
use Rattle.walk.proofs.occurs_deep.Goals as goal

pub returns : goal.returns
returns c = occurs_walk c.requires c.find_related.ensures c.is_marked.ensures
