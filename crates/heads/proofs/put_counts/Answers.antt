-- `heads::put_counts` meets its contract. Two stores from the front on leave what was stored, and the words after it.
-- Assumes nothing.
use mathlib.Core.List.{[], ◌∷◌}
use native.Mathlib.Omega.{arith}
use lib.Seq.{sets-eq}
use Rattle.heads.specs.Heads.{put_counts}
use Rattle.heads.proofs.put_counts.Goals as goal

pub returns : goal.returns
unfolding put_counts
returns c = sets-eq (c.args.nodes ∷ c.args.children ∷ []) c.args.h.now 0 (omega arith)
