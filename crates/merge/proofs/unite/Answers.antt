-- `merge::unite` meets its contract: the test on the two sizes is scope's, and each arm is what `hang` ensures.
-- Assumes nothing.
use Rattle.merge.proofs.Laws.{merge_first, merge_second}
use Rattle.merge.proofs.unite.Goals as goal

pub returns-then-sb-sa : goal.returns-then-sb-sa
returns-then-sb-sa c =
    merge_first _ _ _ _ _ _ _ _ _ c.requires.second c.requires.first c.if-sb-sa.true c.hang.ensures

pub returns-else-sb-sa : goal.returns-else-sb-sa
returns-else-sb-sa c =
    merge_second _ _ _ _ _ _ _ _ _ c.requires.second c.requires.first c.if-sb-sa.false c.hang-else-sb-sa.ensures
