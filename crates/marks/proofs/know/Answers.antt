-- `marks::know` meets its contract: one bit is set, of a word before the entries.
-- Assumes nothing.
use Rattle.marks.proofs.Laws.{marked}
use Rattle.marks.proofs.know.Goals as goal

pub returns : goal.returns
returns c =
    marked c.requires c.open_marks.ensures c.word.ensures c.put.ensures
