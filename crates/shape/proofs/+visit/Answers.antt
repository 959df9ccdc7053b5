-- `shape::visit` meets its contract, by the number of nodes that no visit came to: v is one of them before it is marked, and none after.
-- The loop's invariant: the walks on from the places passed end, and no node is open that was not open where the loop began.
-- Assumes nothing.
use mathlib.Core.Path.{ap, ◌∙◌}
use native.Mathlib.Omega.{arith}
use Rattle.shape.specs.Read.{root_of}
use Rattle.shape.proofs.VisitLaws as laws
use Rattle.shape.proofs.+visit.Goals as goal

pub returns-in_default : goal.returns-in_default
returns-in_default t c = laws.visit_bare c.requires c.held.ensures c.in_default.is

pub visit-requires : goal.visit-requires
visit-requires t c =
    let p = c.requires in
    let inv = c.loop-i.invariant in
    let run = laws.in_run p.falls p.node c.held.ensures c.in-Some.is inv.low c.loop-i-test.true in
    let kid = c.root_of-r.ensures ∙ ap (root_of c.args.roots.now) c.kid_at.ensures in
    let less = laws.fresh_less _ _ p.marked (laws.mark_small p) inv p.node c.in-Fresh.is in
    (omega (arith, less), laws.visits_on p inv run kid)

pub returns-then-not-visit : goal.returns-then-not-visit
returns-then-not-visit t c =
    let p = c.requires in
    let inv = c.loop-i.invariant in
    let run = laws.in_run p.falls p.node c.held.ensures c.in-Some.is inv.low c.loop-i-test.true in
    let kid = c.root_of-r.ensures ∙ ap (root_of c.args.roots.now) c.kid_at.ensures in
    laws.visit_failed _ _ p.marked (laws.mark_small p) inv run kid c.if-not-visit.true c.visit.ensures

pub returns : goal.returns
returns t c = let p = c.requires in
    let all = laws.run_done p.falls p.node c.held.ensures c.in-Some.is c.loop-i-test.false in
    laws.visit_passed _ _ p.marked (laws.mark_small p) c.loop-i.invariant (laws.kids_closed p.falls) p.node all
