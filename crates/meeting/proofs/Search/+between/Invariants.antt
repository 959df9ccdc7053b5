-- `meeting::Search::between` meets its contract. The measure is what lies between low and high. A name that stands in a place stands nowhere else.
-- Assumes nothing.
use Prim.Native.Nat.{◌-◌}
use Rattle.meeting.proofs.Search.+between.Given as goal

abbrev pub decreases-between : goal.decreases-between
decreases-between l = l.high - l.low
