-- `inverse::by_marks` meets its contract: one walk, which marks the roots whose kinds are to be looked at.
-- Assumes nothing.
use Rattle.inverse.proofs.MarkedLaws.{marked_walk}
use Rattle.inverse.proofs.by_marks.Goals as goal

pub returns : goal.returns
returns c = marked_walk c.requires c.find_related.ensures c.all_good.ensures
