-- `layout::put_child` meets its contract. The part that is lent comes back as put_slot pastes it.
-- Assumes nothing.
use Rattle.layout.proofs.ChildLaws.{put_slot_lem}
use Rattle.layout.proofs.put_child.Goals as goal

pub returns : goal.returns
returns c = put_slot_lem c.args.ks.now c.args.i c.args.c c.requires
