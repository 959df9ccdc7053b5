-- `walk::inverse_deep` meets its contract: one walk from no marks, which marks the roots whose kinds are to be looked at.
-- Assumes nothing.
use Rattle.walk.proofs.Answers.{inverse_asks}
use Rattle.walk.proofs.inverse_deep.Goals as goal

pub by_marks-requires : goal.by_marks-requires
by_marks-requires c = inverse_asks c.requires c.args.param
