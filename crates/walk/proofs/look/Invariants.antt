-- `walk::look` meets its contract. The invariant: what is left of the children tells what all of them tell.
-- Assumes nothing.
use Prim.Native.Nat.{◌-◌}
use Rattle.scope.specs.Nodes.{find}
use Rattle.scope.specs.Unify.{occurs}
use Rattle.layout.specs.Lent.{nodes_by}
use Rattle.walk.proofs.LookLaws.{Left}
use Rattle.walk.proofs.look.Given as goal

abbrev pub invariant-loop-j : goal.invariant-loop-j
invariant-loop-j l = Left (λ t. occurs (l.nodes.made - 1) (nodes_by l.nodes) l.x.0 (find (nodes_by l.nodes) t).idx) l.nodes.kids.now l.kind l.j
