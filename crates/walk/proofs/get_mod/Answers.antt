-- `walk::get_mod` meets its contract. The invariant: looking through the Refs that are left gives what looking through all gives.
-- Assumes nothing.
use mathlib.Core.Path.{◌≡◌}
use Prim.Native.Nat.{◌+◌, ◌-◌}
use native.Mathlib.Omega.{arith}
use Rattle.layout.proofs.LinkLaws.{clean_linked}
use Rattle.walk.proofs.Answers.{looks_out, looks_none, looks_kind, looks_bare, looks_on}
use Rattle.walk.proofs.get_mod.Goals as goal
use Rattle.roots.proofs.Laws.{root_is}

pub find_in-requires : goal.find_in-requires
find_in-requires c = clean_linked _ _ _ _ c.requires.clean

pub returns-in-Some : goal.returns-in-Some
returns-in-Some c =
    let h = c.loop-test.true in
    looks_kind c.loop.invariant c.requires (omega (arith, h)) (root_is c.find_in.ensures c.idx-root.ensures _) c.held.ensures c.in-Some.is c.if-kind-ne-REF.true c.mod_of.ensures

pub returns-in_default : goal.returns-in_default
returns-in_default c =
    let h = c.loop-test.true in
    looks_bare c.loop.invariant c.requires (omega (arith, h)) (root_is c.find_in.ensures c.idx-root.ensures _) c.held.ensures c.in-Some.is c.if-kind-ne-REF.false
    (omega (arith, c.if-kind-gt0.false))

pub returns-in_default-2 : goal.returns-in_default-2
returns-in_default-2 c =
    let h = c.loop-test.true in
    looks_none c.loop.invariant c.requires (omega (arith, h)) (root_is c.find_in.ensures c.idx-root.ensures _) c.held.ensures c.in_default.is

pub loop-preserved : goal.loop-preserved
loop-preserved c =
    let h = c.loop-test.true in
    let left : c.args.nodes.now.made - (c.loop.counter + 1) ≡ c.args.nodes.now.made - c.loop.counter - 1 = omega arith in
    rw left
    (looks_on c.loop.invariant c.requires (omega (arith, h)) (root_is c.find_in.ensures c.idx-root.ensures _) c.held.ensures c.in-Some.is c.child.result c.if-kind-ne-REF.false
    c.if-kind-gt0.true c.child.ensures)

pub returns : goal.returns
returns c = looks_out c.loop.invariant (omega (arith, c.loop-test.false))
