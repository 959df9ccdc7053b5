-- `unify_lists::unify_lists` meets its contract. The invariant: the pairs from i on give what all give.
-- Assumes nothing.
use mathlib.Core.Path.{◌≡◌}
use lib.ListN.{length}
use Rattle.names.specs.Place.{texts_by}
use Rattle.unify_lists.proofs.Laws.{ListLeft}
use Rattle.unify_lists.proofs.unify_lists.Given as goal

abbrev pub invariant-loop-x : goal.invariant-loop-x
invariant-loop-x l = (length l.ws ≡ length l.initial.ws) × (length l.memory ≡ length l.initial.memory)
    × ListLeft (texts_by l.fixed.texts) l.initial.ws l.fixed.kids.now l.initial.memory l.fixed.made l.xs l.ys l.inv.0 l.ws l.memory l.r (length l.yielded)
