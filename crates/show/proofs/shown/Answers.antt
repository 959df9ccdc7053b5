-- `show::shown` meets its contract: all that may be shown, or all but the last.
-- Assumes nothing.
use Rattle.scope.specs.Force.{is_nil}
use Rattle.layout.specs.Lent.{nodes_by}
use Rattle.show.proofs.Laws.{nil_at, last_shown}
use Rattle.show.proofs.shown.Goals as goal

pub returns-in-8 : goal.returns-in-8
returns-in-8 c =
    let a = c.args in
    let last = nil_at c.child.result _ c.is_nil.ensures.0 c.requires c.child.ensures c.if-is_nil.true in
    (last_shown (is_nil (nodes_by a.finder.now.nodes.now)) a.finder.now.nodes.now.kids.now a.k c.most-all.ensures c.in-8.is c.if-all-gt0.true last, c.is_nil.ensures.1)

pub returns-in_default : goal.returns-in_default
returns-in_default c =
    let a = c.args in
    let last = nil_at c.child.result _ c.is_nil.ensures.0 c.requires c.child.ensures c.if-is_nil.false in
    (last_shown (is_nil (nodes_by a.finder.now.nodes.now)) a.finder.now.nodes.now.kids.now a.k c.most-all.ensures c.in-8.is c.if-all-gt0.true last, c.is_nil.ensures.1)
