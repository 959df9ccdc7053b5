-- `plan::same_kinds` meets its contract. The tests on the way are those of scope's same_head, in its order; a Key's names are compared by their bytes.
-- Assumes nothing.
use Rattle.plan.proofs.Laws.{same_not, same_plain, same_key}
use Rattle.plan.proofs.same_kinds.Goals as goal

pub returns-then-k-ne-KEY : goal.returns-then-k-ne-KEY
returns-then-k-ne-KEY c = same_plain _ _ _ c.if-k-m-2.true c.if-k-ne-KEY.true

pub returns-else-k-ne-KEY : goal.returns-else-k-ne-KEY
returns-else-k-ne-KEY c = same_key _ _ _ c.if-k-m-2.true c.if-k-ne-KEY.false c.same_name.ensures

pub returns-else-k-m-2 : goal.returns-else-k-m-2
returns-else-k-m-2 c = same_not _ _ _ (cc) c.if-k-m-2.either
