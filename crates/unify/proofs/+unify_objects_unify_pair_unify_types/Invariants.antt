-- The cycle `unify_objects`, `unify_pair`, `unify_types` meets its contracts. The measure is twice the depth, and one more for a run and an object. A loop's invariant:
-- the pairs that are left give what the whole gives, from words and a memory that still meet what is asked. Each place that a proof looks back to has a name: `start`,
-- `entered` (the two types before their children), `steps` (what their roots ask for), `loop`, `turn` (its test), `pair` (two types), `tried` (at once), `unified`, `settled`.
-- Assumes nothing.
use mathlib.Core.Path.{◌≡◌}
use lib.ListN.{length}
use Rattle.names.specs.Place.{texts_by}
use Rattle.unify.proofs.RunLaws.{RunLeft}
use Rattle.unify.proofs.RunLaws.{ObjectLeft}
use Prim.Native.Nat.{◌+◌, ◌*◌}
use Rattle.unify.proofs.+unify_objects_unify_pair_unify_types.Given as goal

abbrev pub decreases-unify_objects : goal.decreases-unify_objects
decreases-unify_objects l = 2 * l.depth + 1

abbrev pub decreases-unify_pair : goal.decreases-unify_pair
decreases-unify_pair l = 2 * l.depth

abbrev pub decreases-unify_types : goal.decreases-unify_types
decreases-unify_types l = 2 * l.depth + 1

abbrev pub invariant-unify_objects-loop-j : goal.invariant-unify_objects-loop-j
invariant-unify_objects-loop-j l = (length l.ws ≡ length l.initial.ws) × (length l.memory ≡ length l.initial.memory)
    × ObjectLeft (texts_by l.fixed.texts) l.fixed.kids.now l.fixed.kids.now l.initial.ws l.fixed.kids.now l.initial.memory l.fixed.made l.depth l.s l.ws l.memory l.r l.j

abbrev pub invariant-unify_types-loop-i : goal.invariant-unify_types-loop-i
invariant-unify_types-loop-i l = (length l.ws ≡ length l.initial.ws) × (length l.memory ≡ length l.initial.memory)
    × RunLeft (texts_by l.fixed.texts) l.initial.ws l.fixed.kids.now l.initial.memory l.fixed.made l.depth l.s l.ws l.memory l.r l.i
