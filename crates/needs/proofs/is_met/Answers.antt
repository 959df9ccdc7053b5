-- `needs::is_met` meets its contract: from a root that is counted the walk does nothing.
-- Assumes nothing.
use Rattle.needs.proofs.CountLaws.{count_met}
use Rattle.needs.proofs.is_met.Goals as goal
use Rattle.roots.proofs.Laws.{root_is}

pub returns : goal.returns
returns c = (
  record { is = λ e ks p sum depth. count_met _ ks _ _ p sum _ depth _ (root_is c.find.ensures.0 c.idx.ensures ks) c.is_counted.ensures e },
  c.find.ensures.1,
)
