-- A refusal of the code: its number, which scope's specs/Refusals has under its name, and what a test or a call tells of one.
use Rattle.std.proofs.Math.Option.{Option, none, some}
use Rattle.std.specs.Prelude.{ℕ, Result, Ok, Err}
use Rattle.scope.specs.Refusals.{UNOPENABLE, BAD_CHART, OUTSIDE, UNMAKEABLE, UNDEFINED, NO_ENTRY, SHORT, UNSOUND, SOURCE_UNSOUND, NODES_FULL, CHILDREN_FULL, UNHELD, NO_PLACE}
use Rattle.refusals.specs.declared.Refusal.{Refusal}
use Rattle.refusals.specs.declared.Refusal.TheVariants as is

abbrev pub number : Refusal → ℕ
number is.Unopenable = UNOPENABLE
number is.BadChart = BAD_CHART
number is.Outside = OUTSIDE
number is.Unmakeable = UNMAKEABLE
number is.Undefined = UNDEFINED
number is.NoEntry = NO_ENTRY
number is.Short = SHORT
number is.Unsound = UNSOUND
number is.SourceUnsound = SOURCE_UNSOUND
number is.NodesFull = NODES_FULL
number is.ChildrenFull = CHILDREN_FULL
number is.Unheld = UNHELD
number is.NoPlace = NO_PLACE

-- the number of the refusal that is told, if one is
abbrev pub told : {A : Type 0} → Result A Refusal → Option ℕ
told (Ok a) = none
told (Err r) = some (number r)
