-- `lent_tests::lists` meets its contract: both lists are among the nodes of one store.
-- Assumes nothing.
use Rattle.lent_tests.proofs.Laws.{lists_told}
use Rattle.lent_tests.proofs.lists.Goals as goal

pub returns : goal.returns
returns c = lists_told _ _ c.lists_among.ensures
