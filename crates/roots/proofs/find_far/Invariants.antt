-- `roots::find_far` meets its contract. The invariant: what is left to point at the root leaves what the whole leaves, and no word but a child's link
-- has changed.
-- Assumes nothing.
use Prim.Native.Nat.{◌-◌}
use Rattle.roots.proofs.Laws.{Points}
use Rattle.roots.proofs.find_far.Given as goal

abbrev pub invariant-loop : goal.invariant-loop
invariant-loop l = Points l.initial.ws l.n l.root.0 l.initial.inv.0 l.initial.cur.0 l.ws l.inv.0 l.cur.0 (l.n - l.counter)
