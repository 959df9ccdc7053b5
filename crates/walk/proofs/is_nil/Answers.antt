-- `walk::is_nil` meets its contract: a root is found already, and otherwise the root that was found has what the definition reads.
-- Assumes nothing.
use mathlib.Core.Path.{refl}
use Rattle.roots.proofs.Laws.{is_root_lem}
use Rattle.walk.proofs.Answers.{nil_is}
use Rattle.walk.proofs.is_nil.Goals as goal

pub returns-in_default : goal.returns-in_default
returns-in_default c =
    nil_is ((is_root_lem c.idx-i.ensures c.node_at.ensures c.in_default.is).found _ refl) c.idx-i.ensures refl refl c.nil_at.ensures

pub returns : goal.returns
returns c = nil_is c.find.ensures c.idx.ensures refl refl c.nil_at-2.ensures
