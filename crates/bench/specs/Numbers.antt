-- The numbers that a caller in another language gets: a type is its word, an answer of `unify` its place in the Rust's enum, yes 1, and a definition its number.
use Rattle.std.specs.Prelude.{◌≡◌, Bool, List, ℕ, eqb, replicate}
use Rattle.scope.specs.Base.{pick}
use Rattle.scope.specs.Limits.{SIGILS, NONE}
use Rattle.scope.specs.Chart.{Env}
use Rattle.scope.specs.Types.{ty_of}
use Rattle.scope.specs.Force.{Mod, none_mod, mod_of, error_mod, is_nil, get_mod}
use Rattle.layout.specs.Words.{decode}
use Rattle.layout.specs.Meaning.{Clean}
use Rattle.chart.specs.Words.{records_of}
use Rattle.names.specs.Place.{no_name}
use Rattle.chart.specs.declared.Beside.{Beside}
use Rattle.types.specs.declared.«Type».{«Type»}
use Rattle.types.specs.declared.UnifyResult.{UnifyResult}
use Rattle.types.specs.declared.UnifyResult.TheVariants.{Success, Failure, Indeterminate}

abbrev pub type_word : ℕ → «Type»
type_word w = record { 0 = w }

-- 0 Success, 1 Failure, 2 Indeterminate
abbrev pub RESULTS : ℕ
RESULTS = 3

abbrev pub result_in : ℕ → UnifyResult
result_in r = pick (eqb r 0) Success (pick (eqb r 1) Failure Indeterminate)

-- no fn trait, and four empty sigils
abbrev pub bare : Beside
bare = record { fn_trait = NONE; sigils = replicate SIGILS no_name }

-- yes and no
abbrev pub flag_of : Bool → ℕ
flag_of b = pick b 1 0

-- `is_nil`, whatever the children's words are
pub record NilNumber (ws : List ℕ) (n t r : ℕ) : Type 0 where
  pub nil : (ks : List ℕ) (c : ℕ) → Clean ws ks c n → r ≡ flag_of (is_nil (decode ws ks n) (ty_of t))

-- a definition's number, and 0 for anything else
abbrev pub number_of_mod : Mod → ℕ
number_of_mod none_mod = 0
number_of_mod (mod_of d) = d
number_of_mod error_mod = 0

-- `get_mod`, whatever stands beside the chart
pub record ModNumber (ws ks : List ℕ) (n : ℕ) (chart : List ℕ) (t r : ℕ) : Type 0 where
  pub answer : (e : Env) → e.records ≡ records_of chart → r ≡ number_of_mod (get_mod e (decode ws ks n) (ty_of t))
