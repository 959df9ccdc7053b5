-- `tested_lean::once_room` meets its contract: a type that is remembered needs no node.
-- Assumes nothing.
use Rattle.tested_lean.proofs.Laws.{none_left}
use Rattle.tested_lean.proofs.once_room.Goals as goal

pub returns-in-Some : goal.returns-in-Some
returns-in-Some c = λ ws ks. rw c.in-Some.is (none_left c.requires ws ks)
