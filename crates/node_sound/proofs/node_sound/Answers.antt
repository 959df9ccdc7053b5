-- `node_sound::node_sound` meets its contract: each way out is a law of the node's words, read as a cell.
-- Assumes nothing.
use mathlib.Core.Path.{sym, ◌∙◌}
use Rattle.std.proofs.Common.{arith}
use Rattle.chart.specs.Env.{chart_lent}
use Rattle.node_sound.proofs.Laws.{test_plain, test_wide, test_unclean, test_node}
use Rattle.node_sound.proofs.node_sound.Goals as goal
use Rattle.node_sound.proofs.node_sound.Goals.{then-x-le-MAX_WIDTH, else-x-le-MAX_WIDTH}

pub returns-then-plain_node-clause-test : goal.returns-then-plain_node-clause-test
returns-then-plain_node-clause-test c = let a = c.args in
    let e = chart_lent a.env.now in
    let plain = c.plain_node.ensures.plain c.if-plain_node.true in
    λ ns l. c.if-plain_node.true ∙ sym (test_plain e a.nodes.now.words.now a.nodes.now.kids.now a.c a.i.0 ns c.cell_at-x.result c.cell_at-x.ensures plain.clean (plain.sound ns l))

pub returns-then-node_clean-clause-test : goal.returns-then-node_clean-clause-test
returns-then-node_clean-clause-test c = let a = c.args in
    let e = chart_lent a.env.now in
    let node = c.node.ensures in
    λ ns l.
    elim c.if-x-le-MAX_WIDTH.branch [
      | then-x-le-MAX_WIDTH w ↦
          let clean = sym w.node_clean.ensures ∙ (sym w.value-is ∙ c.if-node_clean.true) in
          test_node e a.nodes.now.words.now a.nodes.now.kids.now a.c a.i.0 ns c.cell_at-x.result c.cell_at-x.ensures a.nodes.now.made c.requires.index clean node (c.node_sound.ensures ns l)
      | else-x-le-MAX_WIDTH w ↦ absurd (grind (arith, w.value-is, w.if-x-le-MAX_WIDTH.false, c.if-node_clean.true))
    ]

pub returns-else-node_clean-clause-test : goal.returns-else-node_clean-clause-test
returns-else-node_clean-clause-test c = let a = c.args in
    let e = chart_lent a.env.now in
    λ ns l.
    c.if-node_clean.false ∙
    elim c.if-x-le-MAX_WIDTH.branch [
      | then-x-le-MAX_WIDTH w ↦
          let unclean = sym w.node_clean.ensures ∙ (sym w.value-is ∙ c.if-node_clean.false) in
          sym (test_unclean e a.nodes.now.words.now a.nodes.now.kids.now a.c a.i.0 ns c.cell_at-x.result c.cell_at-x.ensures unclean)
      | else-x-le-MAX_WIDTH w ↦ sym (test_wide e a.nodes.now.words.now a.nodes.now.kids.now a.c a.i.0 ns c.cell_at-x.result c.cell_at-x.ensures w.if-x-le-MAX_WIDTH.false)
    ]
