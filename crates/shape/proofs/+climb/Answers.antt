-- `shape::climb` meets its contract, by the depth that is left. A root that is known stays; a root is its own; any other node has its parent's, or
-- none where the parent has none. Each way out is a law.
-- Assumes nothing.
use mathlib.Core.Path.{ap, sym, ◌∙◌}
use Rattle.shape.specs.Walks.{Parent}
use Rattle.shape.specs.Read.{up_in}
use Rattle.shape.proofs.Laws as laws
use Rattle.shape.proofs.+climb.Goals as goal

pub returns-then-depth-eq0 : goal.returns-then-depth-eq0
returns-then-depth-eq0 t c = laws.climb_deep _ c.requires.right c.if-depth-eq0.true

pub returns-then-not-climb : goal.returns-then-not-climb
returns-then-not-climb t c =
    laws.climb_lost _ c.if-depth-eq0.false (ap up_in (sym c.node.ensures ∙ c.in-Child.is) ∙ ap Parent (sym c.idx-p.ensures)) c.climb.ensures c.if-not-climb.true

pub returns-in-Root : goal.returns-in-Root
returns-in-Root t c =
    let s = c.requires in
    laws.climb_root _ (laws.climbs_small s) s.right (ap up_in (sym c.node.ensures ∙ c.in-Root.is)) c.put.ensures

pub returns-else-not-climb : goal.returns-else-not-climb
returns-else-not-climb t c = let pre = c.requires in
    let up = ap up_in (sym c.node.ensures ∙ c.in-Child.is) ∙ ap Parent (sym c.idx-p.ensures) in
    let small = laws.climbs_small pre in
    laws.climb_parent _ c.if-depth-eq0.false up c.climb.ensures small c.at.ensures c.if-at-ne0.false c.if-not-climb.false c.at-root.ensures c.put-in-Child.ensures
