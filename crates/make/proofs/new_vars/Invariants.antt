-- `make::new_vars` meets its contract. The loop's invariant: the slices hold what i variables leave, and their types' words stand at the front of `out`.
-- Assumes nothing.
use Rattle.scope.specs.Make.{new_vars}
use Rattle.layout.specs.Words.{store_in}
use Rattle.make.specs.Made.{MadeAllIs}
use Rattle.make.proofs.new_vars.Given as goal

abbrev pub invariant-loop-i : goal.invariant-loop-i
invariant-loop-i l = MadeAllIs l.initial.h l.initial.ws l.ks l.h l.ws l.ks l.initial.out l.out (new_vars (store_in l.initial.h l.initial.ws l.ks) l.span l.i)
