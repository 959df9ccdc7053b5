-- `walk::occurs` meets its contract: the root itself, a root without children, what a look at its children tells, and else what a walk does.
-- Assumes nothing.
use mathlib.Core.Path.{refl}
use native.Mathlib.Omega.{arith}
use Rattle.walk.proofs.Laws.{kid_none}
use Rattle.walk.proofs.Answers.{occurs_is, occurs_none}
use Rattle.walk.proofs.LookLaws.{occurs_told}
use Rattle.walk.proofs.occurs.Goals as goal

pub returns-then-eq : goal.returns-then-eq
returns-then-eq c = occurs_is c.requires c.idx-root.ensures c.if-eq.ensures

pub returns-in_default : goal.returns-in_default
returns-in_default c =
    occurs_none c.requires c.idx-root.ensures c.if-eq.ensures c.held.ensures c.in-Some.is (kid_none c.args.nodes.now.kids.now _ 0 (omega (arith, c.if-kind-gt0.false)))

pub returns-in_default-2 : goal.returns-in_default-2
returns-in_default-2 c =
    occurs_none c.requires c.idx-root.ensures c.if-eq.ensures c.held.ensures c.in_default.is refl

pub returns-in-Some-look : goal.returns-in-Some-look
returns-in-Some-look c =
    occurs_told c.requires c.idx-root.ensures c.if-eq.ensures c.held.ensures c.in-Some.is c.look.ensures c.in-Some-look.is
