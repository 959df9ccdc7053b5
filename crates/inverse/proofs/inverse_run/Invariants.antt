-- `inverse::inverse_run` meets its contract. The invariant: the run that is walked and those above it tell what all children tell. The measure: a visit goes one
-- level down at most.
-- Assumes nothing.
use Prim.Native.Nat.{◌+◌, ◌*◌}
use Rattle.arrayvec.specs.ArrayVec.{array_vec_len}
use Rattle.layout.specs.Lent.{nodes_by}
use Rattle.inverse.specs.Judged.{kids_in, self_below}
use Rattle.inverse.proofs.RunLaws.{Going}
use Rattle.inverse.proofs.inverse_run.Given as goal

abbrev pub invariant-loop-left : goal.invariant-loop-left
invariant-loop-left l = Going (self_below l.param (nodes_by l.nodes)) l.nodes.kids.now (kids_in l.nodes.kids.now l.first l.count) l.most l.above.items l.run l.left

abbrev pub decreases-loop-left : goal.decreases-loop-left
decreases-loop-left l = 2 * l.left + array_vec_len l.above
