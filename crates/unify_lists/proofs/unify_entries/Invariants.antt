-- `unify_lists::unify_entries` meets its contract. The invariant: what the names from j on ask gives what all ask, as for two objects of one store; the first object's
-- entries lie in xs, the second's in ys.
-- Assumes nothing.
use mathlib.Core.Path.{◌≡◌}
use lib.ListN.{length}
use Rattle.names.specs.Place.{texts_by}
use Rattle.unify_lists.specs.Lent.{from_first}
use Rattle.unify.proofs.RunLaws.{ObjectLeft}
use Rattle.unify_lists.proofs.unify_entries.Given as goal

abbrev pub invariant-loop-j : goal.invariant-loop-j
invariant-loop-j l = (length l.ws ≡ length l.initial.ws) × (length l.memory ≡ length l.initial.memory)
    × ObjectLeft (texts_by l.fixed.texts) l.xs l.ys l.initial.ws l.fixed.kids.now l.initial.memory l.fixed.made l.fixed.made (from_first l.na l.nb l.inv) l.ws l.memory l.r l.j
