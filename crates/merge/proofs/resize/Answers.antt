-- `merge::resize` meets its contract: past the nodes nothing changes, a root has another size word, and a child becomes a root without a kind.
-- Assumes nothing.
use native.Mathlib.Nat.{add-sub_cancel_left}
use Rattle.merge.proofs.QuickLaws.{resized_past, resized_root, resized_child}
use Rattle.merge.proofs.resize.Goals as goal

pub returns-then-n-i : goal.returns-then-n-i
returns-then-n-i c = resized_past _ _ _ _ c.requires c.if-n-i.true

pub returns-then-s-eq-CHILD_TAG : goal.returns-then-s-eq-CHILD_TAG
returns-then-s-eq-CHILD_TAG c =
    resized_child _ _ _ _ c.requires c.if-n-i.false (rw add-sub_cancel_left at c.if-s-eq-CHILD_TAG.true) (rw add-sub_cancel_left)

pub returns-else-s-eq-CHILD_TAG : goal.returns-else-s-eq-CHILD_TAG
returns-else-s-eq-CHILD_TAG c =
    resized_root _ _ _ _ c.requires c.if-n-i.false (rw add-sub_cancel_left at c.if-s-eq-CHILD_TAG.false) (rw add-sub_cancel_left)
