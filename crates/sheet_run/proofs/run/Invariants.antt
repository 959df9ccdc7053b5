-- `sheet_run::run` meets its contract. The loop's invariant: what is printed so far and what the lines to come print is the whole, and the arrays are as long as
-- they were.
-- Assumes nothing.
use mathlib.Core.Path.{◌≡◌}
use lib.ListN.{length}
use Rattle.sheet_run.proofs.RunLaws.{Long, Turn}
use Rattle.sheet_run.proofs.run.Given as goal

abbrev pub invariant-loop-line : goal.invariant-loop-line
invariant-loop-line l = Turn l.input l.initial.out.buf.now l.h l.ws l.ks l.out.buf.now l.out.at (length l.yielded)
    × Long l.initial.memory l.memory l.h l.ws l.ks l.text × (l.out.buf.ghost_name ≡ l.initial.out.buf.ghost_name)
