-- What is read of children: a name's place, and the type beside a name.
use Rattle.std.specs.Prelude.{◌≡◌, true, List, ℕ, ◌+◌, ◌<◌, ◌≤◌}
use Rattle.std.proofs.Math.Option.{Option, none, some}
use Rattle.scope.specs.Names.{Texts, Name, name, bytes, bytes_or, lt_bytes}
use Rattle.scope.specs.Types.{Ty, ty_of}
use Rattle.scope.specs.Unify.{Plan, object_plan, seek}
use Rattle.scope.specs.Sound as sound
use Rattle.types.specs.declared.«Type».{«Type»}
use Rattle.layout.specs.Words.{slot_at}
use Rattle.plan.specs.Meaning.{kids_from, names_from}
use Rattle.plan.specs.declared.Runs.{Runs}
use Rattle.std.specs.Prelude.{Some, None}
use Rattle.std.specs.declared.option.Option as option

-- the type beside a name, if it is there
abbrev pub Sought : Type 0
Sought = option.Option «Type»

-- where a child's name lies
abbrev pub slot_place : sound.Slot → Name
slot_place s = name s.text s.start s.len

-- the type beside a name
abbrev pub sought_means : Sought → Option Ty
sought_means (Some t) = some (ty_of t.0)
sought_means None = none

abbrev pub sought_in : Texts → List ℕ → Name → ℕ → ℕ → Option Ty
sought_in x ks m b count = seek x (bytes x m) (names_from ks b count) (kids_from ks b count)

-- what two objects ask whose children lie in xs and in ys
abbrev pub objects_of : Texts → List ℕ → List ℕ → Runs → Plan
objects_of x xs ys s =
    object_plan x s.inv.0 (names_from xs s.a s.na) (kids_from xs s.a s.na) (names_from ys s.b s.nb) (kids_from ys s.b s.nb)

-- between two places, if there is any between them
pub record Middle (low high r : ℕ) : Type 0 where
  pub above : low ≤ r
  pub below : low < high → r < high

-- the name of the j-th child from b on
abbrev pub nth : Texts → List ℕ → ℕ → ℕ → List ℕ
nth x ks b j = bytes_or x (sound.slot_name (slot_at ks (b + j)))

-- of count names from b on those below low come before a name, those from high on behind it, and the next look is between
pub record Between (x : Texts) (ks : List ℕ) (m : Name) (b count low high at : ℕ) : Type 0 where
  pub top : high ≤ count
  pub look : Middle low high at
  pub under : (j : ℕ) → j < low → j < count → lt_bytes (nth x ks b j) (bytes x m) ≡ true
  pub over : (j : ℕ) → high ≤ j → j < count → lt_bytes (bytes x m) (nth x ks b j) ≡ true
