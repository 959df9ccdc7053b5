-- `roots::climb` meets its contract. The invariant: what is left to climb gives what the whole climb gives.
-- Assumes nothing.
use Prim.Native.Nat.{◌-◌}
use Rattle.roots.proofs.Laws.{Climbs}
use Rattle.roots.proofs.climb.Given as goal

abbrev pub invariant-loop-step : goal.invariant-loop-step
invariant-loop-step l = Climbs l.ws l.n l.initial.inv.0 l.initial.cur.0 l.inv.0 l.cur.0 (l.n - l.step)
