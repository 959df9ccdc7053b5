-- `kind_sound::has_chart_flag` meets its contract: the kind's flag is held against the chart's, as `flag_is` does.
-- Assumes nothing.
use mathlib.Core.Path.{◌≡◌, refl}
use mathlib.Core.Bool.{Bool, true, false, beq}
use Rattle.scope.specs.Kinds.{eq_bool, flag_is}
use Rattle.layout.specs.Meaning.{kind_means}
use Rattle.kind_sound.proofs.has_chart_flag.Goals as goal

same : (a b : Bool) → beq a b ≡ eq_bool a b
same true true = refl
same true false = refl
same false true = refl
same false false = refl

pub returns : goal.returns
unfolding flag_is kind_means
returns c = rw (same, c.chart_flag.ensures)
