-- What program `sheet` lends beside its store: nothing. And what its store is before each line, and after it.
use Rattle.std.specs.Prelude.{◌≡◌, true, List, ℕ, replicate}
use Rattle.scope.specs.Limits.{SIGILS, NONE}
use Rattle.scope.specs.Sound.{sound}
use Rattle.scope.specs.Sheet.{sheet_env}
use Rattle.chart.specs.declared.Beside.{Beside}
use Rattle.names.specs.Place.{no_name}
use Rattle.layout.specs.Words.{lent_of}

-- "no fn trait", and four empty sigils
abbrev pub sheet_beside : Beside
sheet_beside = record { fn_trait = NONE; sigils = replicate SIGILS no_name }

-- the slices hold a store that is sound over an empty chart: refusal 8 does not stand
pub record SheetStore (h ws ks : List ℕ) : Type 0 where
  pub sound : sound sheet_env (lent_of h ws ks) ≡ true
