-- `related::meet` meets its contract: a node that was told, a root that was marked, and one that is marked now.
-- Assumes nothing.
use Rattle.related.proofs.KeepLaws.{meets_old, meets_in}
use Rattle.related.proofs.meet.Goals as goal

pub returns-then-is_marked-2 : goal.returns-then-is_marked-2
returns-then-is_marked-2 c =
    (meets_old c.requires c.find.ensures.0 c.idx-root.ensures c.idx-then-is_marked-2.ensures c.is_marked-2.ensures c.if-is_marked-2.true c.set_mark.ensures, c.find.ensures.1)

pub returns-then-is_marked-3 : goal.returns-then-is_marked-3
returns-then-is_marked-3 c = (
  meets_in c.requires c.find.ensures.0 c.idx-root.ensures c.idx-then-is_marked-3.ensures c.is_marked-2.ensures c.if-is_marked-2.false c.set_mark-2.ensures
      c.is_marked-3.ensures c.if-is_marked-3.true c.set_mark-then-is_marked-3.ensures,
  c.find.ensures.1,
)
