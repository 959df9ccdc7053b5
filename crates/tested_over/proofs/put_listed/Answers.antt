-- `tested_over::put_listed` meets its contract. The loop's invariant: the first i types stand as entries without names, and the slots before `first` and after
-- them are as they were.
-- Assumes nothing.
use mathlib.Core.Path.{sym}
use native.Mathlib.Omega.{arith}
use Rattle.make.proofs.NewLaws.{put_more}
use Rattle.tested_over.specs.Over.{entries_of}
use Rattle.tested_over.proofs.EntryLaws.{entry_is}
use Rattle.tested_over.proofs.put_listed.Goals as goal

pub loop-i-preserved : goal.loop-i-preserved
loop-i-preserved c =
    let ts = c.args.types.now in
    put_more (entries_of ts) c.args.first c.loop-i.i c.loop-i.invariant (omega arith) (sym (entry_is ts c.loop-i.i (omega arith))) c.put_child.ensures
