-- The store is sound, and the buffer holds the bytes of the line so far.
use Rattle.sheet.specs.Holding.{Goes}
use Rattle.sheet.proofs.serve.Given as goal

abbrev pub invariant-loop : goal.invariant-loop
invariant-loop g l = Goes l.h l.ws l.ks l.line l.at
