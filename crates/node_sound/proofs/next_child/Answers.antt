-- `node_sound::next_child` meets its contract: a child that was seen rises, and one that rises is seen from now on.
-- Assumes nothing.
use mathlib.Core.Path.{◌≡◌, sym, ◌∙◌}
use mathlib.Core.Bool.{true, false≢true}
use Rattle.names.specs.Place.{texts_by}
use Rattle.node_sound.specs.Tests.{Rises}
use Rattle.node_sound.proofs.Laws.{rises_at, seen_more}
use Rattle.node_sound.proofs.next_child.Goals as goal
use Rattle.node_sound.proofs.next_child.Goals.{then-not-seen-i, then-name_ok, else-name_ok, else-not-seen-i}

pub returns-clause-seen : goal.returns-clause-seen
returns-clause-seen c = let a = c.args in
    let x = texts_by a.texts.now in
    let known = c.requires.known in
    elim c.if-not-seen-i.branch [
      | then-not-seen-i w ↦
          let rises : w.if-name_ok.seen ≡ true → Rises x a.ks.now a.i =
          λ t.
          elim w.if-name_ok.branch [
            | then-name_ok w' ↦
                let named = sym w.name_ok.ensures ∙ w'.if-name_ok.true in
                let after = sym w'.name_before.ensures ∙ (sym w'.seen-is ∙ t) in
                rises_at x a.ks.now a.i w.child_at-last.ensures c.child_at-child.ensures named after
            | else-name_ok w' ↦ absurd (false≢true (sym (w'.seen-is ∙ w'.if-name_ok.false) ∙ t))
          ] in
          rw w.seen-is (seen_more w.if-name_ok.seen known c.requires.few rises)
      | else-not-seen-i w ↦ rw w.seen-is known
    ]
