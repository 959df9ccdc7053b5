-- `heed::settle` meets its contract: a Success merges and nothing is believed any more; another answer changes nothing and is noted.
-- Assumes nothing.
use Rattle.heed.proofs.Laws.{settled_merges, settled_notes}
use Rattle.heed.proofs.settle.Goals as goal

pub returns-in-Success : goal.returns-in-Success
returns-in-Success c = settled_merges c.settle-q.ensures c.changed.ensures

pub returns-in-Failure : goal.returns-in-Failure
returns-in-Failure c = settled_notes c.in-Failure.is c.note.ensures
