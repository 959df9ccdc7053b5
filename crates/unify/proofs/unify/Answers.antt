-- `unify::unify` meets its contract: what needs no walk is done at once, and anything else is `unify_pair`'s.
-- Assumes nothing.
use Rattle.unify_enter.proofs.Laws.{no_depth}
use Rattle.unify_enter.proofs.QuickLaws.{quick_adds, small_merged}
use Rattle.unify.proofs.unify.Goals as goal

pub returns-then-depth-eq0 : goal.returns-then-depth-eq0
returns-then-depth-eq0 c = no_depth c.requires c.if-depth-eq0.true

pub small-requires : goal.small-requires
small-requires c = quick_adds c.requires

pub returns-then-small : goal.returns-then-small
returns-then-small c =
    small_merged c.requires c.if-depth-eq0.false c.small.ensures c.if-small.true
