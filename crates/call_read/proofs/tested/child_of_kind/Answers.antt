-- `call_read::tested::child_of_kind` meets its contract: below the number of children lies one, and past it none.
-- Assumes nothing.
use Rattle.call_read.proofs.tested.NameLaws.{kid_is, kid_past}
use Rattle.call_read.proofs.tested.child_of_kind.Goals as goal

pub returns-then-j-kind : goal.returns-then-j-kind
returns-then-j-kind c = let a = c.args in
    kid_is a.ks.now a.kind a.j c.child_of.result c.if-j-kind.true c.child_of.ensures

pub returns-else-j-kind : goal.returns-else-j-kind
returns-else-j-kind c = kid_past c.args.ks.now c.args.kind c.args.j c.if-j-kind.false
