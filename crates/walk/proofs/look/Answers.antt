-- `walk::look` meets its contract. The invariant: what is left of the children tells what all of them tell.
-- Assumes nothing.
use native.Mathlib.Omega.{arith}
use Rattle.scope.specs.Types.{ty_of}
use Rattle.layout.proofs.LinkLaws.{clean_linked}
use Rattle.walk.proofs.LookLaws.{looked, left_end, left_yes, left_no, kid_met, kid_leaf}
use Rattle.walk.proofs.look.Goals as goal
use Rattle.roots.proofs.Laws.{root_is}

pub near-requires : goal.near-requires
near-requires c = clean_linked _ _ _ _ c.requires.0.clean

pub returns-then-eq : goal.returns-then-eq
returns-then-eq c =
    looked
    (left_yes c.loop-j.invariant c.child.result c.loop-j-test.true c.child.ensures
    (kid_met _ _ (ty_of c.child.result.ty.0) c.requires.1 (root_is (c.near.ensures.found _ c.in-Some.is) c.idx-i.ensures _) c.if-eq.ensures))

pub loop-j-preserved : goal.loop-j-preserved
loop-j-preserved c =
    left_no c.loop-j.invariant c.child.result c.loop-j-test.true c.child.ensures
    (kid_leaf _ (ty_of c.child.result.ty.0) c.requires.0 c.requires.1
    (root_is (c.near.ensures.found _ c.in-Some.is) c.idx-i.ensures _) c.if-eq.ensures
    c.is_leaf.ensures c.if-not-is_leaf.false)

pub returns : goal.returns
returns c = looked (left_end c.loop-j.invariant (omega (arith, c.loop-j-test.false)))
