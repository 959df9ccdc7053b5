-- `heads::put_unknown` meets its contract. The part that is lent is the unused slot, and comes back as put_at pastes it.
-- Assumes nothing.
use Prim.Native.Nat.{◌+◌}
use native.Mathlib.Omega.{arith}
use native.Mathlib.Nat.{add-sub_cancel_left}
use borrow.Author.Tests.{lt-ltb}
use Rattle.layout.specs.Meaning.{put_at}
use Rattle.heads.proofs.put_unknown.Goals as goal

pub returns : goal.returns
unfolding put_at
returns c = let i = c.args.i.0 in
    rw (lt-ltb i (i + 1) (omega arith), add-sub_cancel_left, c.requires.i_value)
