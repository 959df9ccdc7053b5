-- `unify_lists::unify_entries` meets its contract. The invariant: what the names from j on ask gives what all ask, as for two objects of one store; the first object's
-- entries lie in xs, the second's in ys.
-- Assumes nothing.
use mathlib.Core.Path.{refl, ◌∙◌}
use Rattle.meeting.proofs.KidLaws.{child_place, child_type}
use Rattle.unify.proofs.RunLaws.{object_none, object_pair, object_asks, object_next}
use Rattle.unify_lists.proofs.Laws.{entries_start, entries_end}
use Rattle.unify_lists.proofs.unify_entries.Goals as goal
use Rattle.unify_lists.proofs.unify_entries.Goals.{in-Some, in-None}

pub loop-j-init : goal.loop-j-init
loop-j-init c =
    (refl, refl, entries_start c.requires c.entries-na.ensures c.entries-nb.ensures c.from-r.ensures)

pub unify-q-requires : goal.unify-q-requires
unify-q-requires c =
    object_asks (object_pair c.loop-j.invariant.2 c.loop-j-test.true (child_place c.child_of-x.ensures) c.seek-f.ensures c.in-Some.is (child_type c.child_of-x.ensures) c.invert_if.ensures)

pub loop-j-preserved : goal.loop-j-preserved
loop-j-preserved c =
    elim c.match-f.branch [
      | in-Some w ↦ rw (w.ws-is, w.memory-is) (
        w.unify-q.auto.ws ∙ c.loop-j.invariant.0,
        w.unify-q.auto.memory ∙ c.loop-j.invariant.1,
        object_next
            (object_pair c.loop-j.invariant.2 c.loop-j-test.true (child_place c.child_of-x.ensures) c.seek-f.ensures w.in-Some.is (child_type c.child_of-x.ensures) w.invert_if.ensures)
            w.unify-q.ensures (rw w.q-is at c.and-r.ensures),
      )
      | in-None w ↦ rw (w.ws-is, w.memory-is) (
        c.loop-j.invariant.0,
        c.loop-j.invariant.1,
        object_none c.loop-j.invariant.2 c.loop-j-test.true (child_place c.child_of-x.ensures) c.seek-f.ensures w.in-None.is (rw w.q-is at c.and-r.ensures),
      )
    ]

pub returns : goal.returns
returns c =
    entries_end c.requires c.entries-na.ensures c.entries-nb.ensures c.loop-j.invariant.2
    c.loop-j-test.false
