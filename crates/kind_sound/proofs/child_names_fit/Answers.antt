-- `kind_sound::child_names_fit` meets its contract. The loop's invariant: the names from j on, with the last one passed before them, are ascending if and
-- only if all names are.
-- Assumes nothing.
use mathlib.Core.Path.{sym, ◌∙◌}
use native.Mathlib.Omega.{arith}
use Rattle.scope.specs.Names.{bytes}
use Rattle.names.specs.Place.{texts_by, name_of}
use Rattle.kind_sound.proofs.NameLaws.{child_names, name_below, names_past, name_there, up_start, up_end, up_step, up_unnamed, up_unordered}
use Rattle.kind_sound.proofs.child_names_fit.Goals as goal
use Rattle.kind_sound.proofs.child_names_fit.Goals.{then-not-name_ok-via-then-not-name_ok, then-not-name_ok-via-else-not-name_ok+then-not-name_before}

pub loop-j-init : goal.loop-j-init
unfolding bytes
loop-j-init c = let a = c.args in
    up_start (texts_by a.texts.now) (child_names a.ks.now a.k.first a.k.count)

pub returns-then-not-name_ok : goal.returns-then-not-name_ok
returns-then-not-name_ok c =
    let a = c.args in
    let x = texts_by a.texts.now in
    let n = name_of c.child_of.result.name in
    let ns = child_names a.ks.now a.k.first a.k.count in
    let below = name_below a.ks.now a.k.first a.k.count c.loop-j.j c.loop-j-test.true in
    let there = name_there a.ks.now a.k.first a.k.count c.loop-j.j c.loop-j-test.true c.child_of.result c.child_of.ensures in
    elim c.then-not-name_ok.branch [
      | then-not-name_ok-via-then-not-name_ok w ↦
          sym (up_unnamed x (bytes x (name_of c.loop-j.last)) ns c.loop-j.j n below there (grind (arith, w.if-not-name_ok.true))) ∙ c.loop-j.invariant
      | then-not-name_ok-via-else-not-name_ok+then-not-name_before w ↦
          sym (up_unordered x (bytes x (name_of c.loop-j.last)) ns c.loop-j.j n below there (grind (arith, w.if-not-name_before.true))) ∙ c.loop-j.invariant
    ]

pub loop-j-preserved : goal.loop-j-preserved
loop-j-preserved c =
    let a = c.args in
    let x = texts_by a.texts.now in
    let n = name_of c.child_of.result.name in
    sym (up_step x (bytes x (name_of c.loop-j.last)) (child_names a.ks.now a.k.first a.k.count) c.loop-j.j n
    (name_below a.ks.now a.k.first a.k.count c.loop-j.j c.loop-j-test.true)
    (name_there a.ks.now a.k.first a.k.count c.loop-j.j c.loop-j-test.true c.child_of.result c.child_of.ensures)
    (sym c.name_ok.ensures ∙ c.if-not-name_ok.false) (sym c.name_before.ensures ∙ c.if-not-name_before.false)) ∙ c.loop-j.invariant

pub returns : goal.returns
returns c = let a = c.args in
    let x = texts_by a.texts.now in
    sym (up_end x (bytes x (name_of c.loop-j.last)) (child_names a.ks.now a.k.first a.k.count) c.loop-j.j
    (names_past a.ks.now a.k.first a.k.count c.loop-j.j c.loop-j-test.false)) ∙ c.loop-j.invariant
