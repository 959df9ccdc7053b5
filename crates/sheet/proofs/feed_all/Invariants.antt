-- The store is sound, and the buffer holds the bytes of the line so far. What is left of the piece gets less.
use Rattle.std.proofs.Common.{length}
use Rattle.sheet.specs.Holding.{Goes}
use Rattle.sheet.proofs.feed_all.Given as goal

abbrev pub invariant-loop-rest : goal.invariant-loop-rest
invariant-loop-rest g l = Goes l.h l.ws l.ks l.line l.p

abbrev pub decreases-loop-rest : goal.decreases-loop-rest
decreases-loop-rest g l = length l.rest
