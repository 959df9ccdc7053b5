-- `merge::quick` meets its contract: it merges only what it found to be two roots without kinds.
-- Assumes nothing.
use Rattle.merge.proofs.QuickLaws.{tried_merged}
use Rattle.merge.proofs.quick.Goals as goal

pub returns : goal.returns
returns c = tried_merged c.idx-ia.ensures c.idx-ib.ensures c.if-ne.ensures c.in-Some.ensures c.in-Some-bare_at.ensures c.unite.ensures
