-- `call_read::tested::child_named` meets its contract: below n lies a child, whose name the definition reads, and past it none.
-- Assumes nothing.
use Rattle.call_read.proofs.tested.NameLaws.{named_is, named_past}
use Rattle.call_read.proofs.tested.child_named.Goals as goal

pub returns-then-n-j : goal.returns-then-n-j
returns-then-n-j c = named_past c.args.ks.now c.args.kind c.args.j c.args.n c.if-n-j.true

pub returns : goal.returns
returns c = let a = c.args in
    named_is a.ks.now a.kind a.j a.n c.child_of.result c.if-n-j.false c.child_of.ensures c.told_name.ensures
