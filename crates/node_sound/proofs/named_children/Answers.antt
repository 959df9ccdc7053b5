-- `node_sound::named_children` meets its contract: the next child follows as those before it do.
-- Assumes nothing.
use Rattle.std.proofs.Common.{◌<◌, ℕ, arith, below_more}
use Rattle.names.specs.Place.{texts_by}
use Rattle.node_sound.specs.Tests.{Follows}
use Rattle.node_sound.proofs.named_children.Goals as goal

pub loop-i-preserved : goal.loop-i-preserved
loop-i-preserved c = let a = c.args in
    let gone = c.loop-i.invariant in
    let next = c.next_child.ensures in
    let more = below_more (λ (u : ℕ). a.a < u → Follows (texts_by a.texts.now) a.ks.now a.n u) c.loop-i.i gone.each (λ l. next.follows c.if-not-next_child.false) in
    record { known = next.seen; low = omega (arith, gone.low); each = more }
