-- `merge::one_nil` meets its contract: two types of one node, and that node is a Tuple of nothing.
-- Assumes nothing.
use Rattle.merge.proofs.QuickLaws.{one_nil}
use Rattle.merge.proofs.one_nil.Goals as goal

pub returns-then-eq : goal.returns-then-eq
returns-then-eq c = one_nil c.idx-i.ensures c.idx.ensures c.if-eq.ensures c.nil_at.ensures
