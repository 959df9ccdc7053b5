-- `node_sound::plain_kind` meets its contract: a kind that is framed is plain by its children, whether these have names or not.
-- Assumes nothing.
use mathlib.Core.Path.{sym, ap}
use Rattle.scope.specs.Kinds.{Row}
use Rattle.node_sound.proofs.Laws.{kind_bare, kind_named}
use Rattle.node_sound.proofs.plain_kind.Goals as goal

pub returns-in-No-clause-plain : goal.returns-in-No-clause-plain
returns-in-No-clause-plain c =
    let a = c.args in
    let framed = c.frame_ok.ensures c.if-not-frame_ok.false in
    let none = rw c.in-No.is at (sym (ap (λ (r : Row). r.names) c.row_of-row.ensures)) in
    λ t. kind_bare a.env.now a.ks.now a.n a.k framed none (c.plain_children.ensures t)

pub returns-in-OfChildren-clause-plain : goal.returns-in-OfChildren-clause-plain
returns-in-OfChildren-clause-plain c = let a = c.args in
    let framed = c.frame_ok.ensures c.if-not-frame_ok.false in
    let named = rw c.in-OfChildren.is at (sym (ap (λ (r : Row). r.names) c.row_of-row.ensures)) in
    λ t. kind_named a.env.now a.ks.now a.n a.k framed named (c.named_children.ensures.named t)
