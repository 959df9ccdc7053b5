-- What a kind tells without its children: whether it has any, and the answer of `get_mod`.
use Rattle.std.specs.Prelude.{List, Bool, true, ℕ, eqb, get_or}
use Rattle.scope.specs.Base.{pick}
use Rattle.scope.specs.Chart.{Record, no_record}
use Rattle.scope.specs.Kinds.{ERROR}
use Rattle.scope.specs.Force.{none_mod, mod_of, error_mod, has_def}
use Rattle.scope.specs.Force as force
use Rattle.layout.specs.Meaning.{Held}
use Rattle.std.specs.declared.option.Option.TheVariants as held
use Rattle.walk.specs.declared.Mod.{Mod}
use Rattle.walk.specs.declared.Mod.TheVariants.{Nothing, Def, Error}

-- a root without children
abbrev pub leaf_by : Held → Bool
leaf_by (held.Some (i, k)) = eqb k.count 0
leaf_by held.None = true

-- what the code's answers mean
abbrev pub mod_means : Mod → force.Mod
mod_means Nothing = none_mod
mod_means (Def d) = mod_of d
mod_means Error = error_mod

-- `get_mod` of a kind that is no Ref, by its code and its number
abbrev pub mod_by : List Record → ℕ → ℕ → force.Mod
mod_by rs c n = pick (has_def c) (mod_of (get_or rs n no_record).def) (pick (eqb c ERROR) error_mod none_mod)
