-- `sound::store_sound` meets its contract: a store that cannot be read is not sound, and one that can has the tests that are left, in the definition's
-- order.
-- Assumes nothing.
use mathlib.Core.Path.{sym, ◌∙◌}
use mathlib.Core.Bool.{false≢true}
use Rattle.chart.specs.Env.{chart_lent}
use Rattle.layout.specs.Words.{decode}
use Rattle.layout.proofs.Laws.{length_decode}
use Rattle.sound.proofs.Laws.{Passed, unreadable, readable_sound, readable_words, shaped, sound_passed}
use Rattle.sound.proofs.store_sound.Goals.{then-nodes_sound, else-nodes_sound, then-remembered_inside, else-remembered_inside}
use Rattle.sound.proofs.store_sound.Goals.{Then-remembered_inside-2}
use Rattle.sound.proofs.store_sound.Goals as goal

pub returns-then-not-readable : goal.returns-then-not-readable
returns-then-not-readable c = let a = c.args in
    sym (unreadable a.h.now a.ws.now a.ks.now (chart_lent a.env.now) (sym c.readable.ensures ∙ c.if-not-readable.true))

pub invariant_of-nodes : goal.invariant_of-nodes
invariant_of-nodes c = let a = c.args in
    let words = readable_words a.h.now a.ws.now a.ks.now c.read_header-x.result c.read_header-x.ensures (sym c.readable.ensures ∙ c.if-not-readable.false) in
    record { room = words.0 }

pub nodes_sound-requires : goal.nodes_sound-requires
nodes_sound-requires c = let a = c.args in
    let words = readable_words a.h.now a.ws.now a.ks.now c.read_header-x.result c.read_header-x.ensures (sym c.readable.ensures ∙ c.if-not-readable.false) in
    record { few = words.1 }

-- where the shape is looked at the tests before it passed
passed : (c : Then-remembered_inside-2) → let a = c.args in Passed a.h.now a.ws.now a.ks.now (chart_lent a.env.now) c.read_header-x.result
passed c = let a = c.args in
    let ns = decode a.ws.now a.ks.now c.read_header-x.result.nodes in
    let l = length_decode a.ws.now a.ks.now c.read_header-x.result.nodes in
    elim c.if-remembered_inside.branch [
      | else-remembered_inside w ↦ absurd (false≢true (sym (w.value-is ∙ w.if-remembered_inside.false) ∙ c.if-remembered_inside-2.true))
      | then-remembered_inside w ↦ elim c.if-nodes_sound.branch [
        | else-nodes_sound v ↦ absurd (false≢true (sym (v.value-is ∙ v.if-nodes_sound.false) ∙ w.if-remembered_inside.true))
        | then-nodes_sound v ↦ record {
          head = c.read_header-x.ensures;
          readable = sym c.readable.ensures ∙ c.if-not-readable.false;
          nodes = sym c.nodes_sound.ensures ∙ v.if-nodes_sound.true;
          error = sym (v.remembered_inside.ensures ns l) ∙ (sym v.value-is ∙ w.if-remembered_inside.true);
          nil = sym (w.remembered_inside-then-remembered_inside.ensures ns l) ∙ (sym w.value-is ∙ c.if-remembered_inside-2.true);
        }
      ]
    ]

pub shape_ok-requires : goal.shape_ok-requires
shape_ok-requires c = shaped (passed (goal.at.shape_ok-requires c).Then-remembered_inside-2)

pub returns-then-remembered_inside-2 : goal.returns-then-remembered_inside-2
returns-then-remembered_inside-2 c = c.shape_ok.ensures ∙ sym (sound_passed (passed (goal.at.returns-then-remembered_inside-2 c).Then-remembered_inside-2))

pub returns-else-remembered_inside-2 : goal.returns-else-remembered_inside-2
returns-else-remembered_inside-2 c = let a = c.args in
    let ns = decode a.ws.now a.ks.now c.read_header-x.result.nodes in
    let l = length_decode a.ws.now a.ks.now c.read_header-x.result.nodes in
    let r = sym c.readable.ensures ∙ c.if-not-readable.false in
    let rest = readable_sound a.h.now a.ws.now a.ks.now (chart_lent a.env.now) c.read_header-x.result c.read_header-x.ensures r in
    elim c.if-nodes_sound.branch [
      | else-nodes_sound v ↦
          let nodes = sym c.nodes_sound.ensures ∙ v.if-nodes_sound.false in
          rw (rest, nodes) c.if-remembered_inside-2.false
      | then-nodes_sound v ↦
          let nodes = sym c.nodes_sound.ensures ∙ v.if-nodes_sound.true in
          elim c.if-remembered_inside.branch [
            | else-remembered_inside w ↦
                let error = sym (v.remembered_inside.ensures ns l) ∙ (sym v.value-is ∙ w.if-remembered_inside.false) in
                rw (rest, nodes, error) c.if-remembered_inside-2.false
            | then-remembered_inside w ↦
                let error = sym (v.remembered_inside.ensures ns l) ∙ (sym v.value-is ∙ w.if-remembered_inside.true) in
                let nil = sym (w.remembered_inside-then-remembered_inside.ensures ns l) ∙ (sym w.value-is ∙ c.if-remembered_inside-2.false) in
                rw (rest, nodes, error, nil) c.if-remembered_inside-2.false
          ]
    ]
