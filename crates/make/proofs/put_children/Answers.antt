-- `make::put_children` meets its contract: the words of the first n entries take the place of as many behind the children made.
-- Assumes nothing.
use native.Mathlib.Omega.{arith}
use Rattle.make.proofs.NewLaws.{put_copied}
use Rattle.make.proofs.put_children.Goals as goal

pub returns : goal.returns
returns c = let a = c.args in
    put_copied a.entries.now a.ks.now a.first a.n c.child_words-from.ensures (omega arith) c.copy_from_slice.ensures.after c.requires.0 c.requires.1
