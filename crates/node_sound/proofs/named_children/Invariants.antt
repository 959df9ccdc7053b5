-- `node_sound::named_children` meets its contract. The loop's invariant: the children after the first and before the next follow, each the one before it.
-- Assumes nothing.
use Rattle.names.specs.Place.{texts_by}
use Rattle.node_sound.proofs.Laws.{Gone}
use Rattle.node_sound.proofs.named_children.Given as goal

abbrev pub invariant-loop-i : goal.invariant-loop-i
invariant-loop-i l = Gone (texts_by l.texts) l.ks l.n l.a l.i l.seen
