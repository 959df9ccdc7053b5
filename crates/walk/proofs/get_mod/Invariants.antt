-- `walk::get_mod` meets its contract. The invariant: looking through the Refs that are left gives what looking through all gives.
-- Assumes nothing.
use Prim.Native.Nat.{◌-◌}
use Rattle.walk.proofs.Answers.{Looks}
use Rattle.walk.proofs.get_mod.Given as goal

abbrev pub invariant-loop : goal.invariant-loop
invariant-loop l = Looks l.nodes.words.now l.nodes.kids.now l.nodes.made l.initial.cur.0 l.cur.0 (l.nodes.made - l.counter)
