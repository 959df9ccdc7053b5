-- `node_sound::nodes_sound` meets its contract. The loop's invariant: the nodes below i pass, and what was seen is so. The measure is what is left of them.
-- Assumes nothing.
use mathlib.Core.Path.{sym, ◌∙◌}
use native.Mathlib.Omega.{arith}
use borrow.Author.Count.{below_more}
use Rattle.chart.specs.Env.{chart_lent}
use Rattle.layout.specs.Lent.{nodes_by}
use Rattle.layout.proofs.Lists.{all_stop, all_done}
use Rattle.layout.proofs.Laws.{length_decode}
use Rattle.node_sound.specs.Tests.{node_test}
use Rattle.node_sound.proofs.Laws.{seen_none}
use Rattle.node_sound.proofs.nodes_sound.Goals as goal

pub loop-i-init : goal.loop-i-init
loop-i-init c = (omega arith, (λ u h. absurd (omega arith)), seen_none _ _)

pub returns-then-not-node_sound : goal.returns-then-not-node_sound
returns-then-not-node_sound c = let a = c.args in
    let ns = nodes_by a.nodes.now in
    let l = length_decode a.nodes.now.words.now a.nodes.now.kids.now a.nodes.now.made in
    let test = node_test (chart_lent a.env.now) a.nodes.now.words.now a.nodes.now.kids.now a.c ns in
    all_stop test a.nodes.now.made c.loop-i.i c.loop-i-test.true (sym (c.node_sound.ensures.test ns l) ∙ c.if-not-node_sound.true)

pub loop-i-preserved : goal.loop-i-preserved
loop-i-preserved c = let a = c.args in
    let ns = nodes_by a.nodes.now in
    let l = length_decode a.nodes.now.words.now a.nodes.now.kids.now a.nodes.now.made in
    let node = c.node_sound.ensures in
    (omega (arith, c.loop-i-test.true), below_more _ _ c.loop-i.invariant.1 (sym (node.test ns l) ∙ c.if-not-node_sound.false), node.seen)

pub returns : goal.returns
returns c = let a = c.args in
    let ns = nodes_by a.nodes.now in
    let test = node_test (chart_lent a.env.now) a.nodes.now.words.now a.nodes.now.kids.now a.c ns in
    all_done test a.nodes.now.made c.loop-i.i c.loop-i-test.false c.loop-i.invariant.1
