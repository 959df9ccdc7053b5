-- `kind_sound::chart_flag` meets its contract: the row that was read is scope's, and the test on it is the one that `flag_of` picks by.
-- Assumes nothing.
use mathlib.Core.Logic.{inl, inr}
use Rattle.scope.specs.Kinds.{flag_of}
use Rattle.kind_sound.proofs.chart_flag.Goals as goal

pub returns-in-No : goal.returns-in-No
unfolding flag_of
returns-in-No c = elim c.in-No.is [ inl e ↦ rw (← c.row_of.ensures, e) | inr e ↦ rw (← c.row_of.ensures, e) ]

pub returns-in-AsChart : goal.returns-in-AsChart
unfolding flag_of
returns-in-AsChart c = rw (← c.row_of.ensures, c.in-AsChart.is) c.dual_at.ensures
