-- What a caller in another language gives as numbers.
use Rattle.std.specs.Prelude.{Bool, not, List, [], ◌∷◌, ℕ, ◌+◌, ◌*◌, eqb, get_or, Some, None}
use Rattle.std.specs.declared.option.Option as option
use Rattle.std.specs.Borrow.{Bor}
use Rattle.scope.specs.Base.{pick}
use Rattle.scope.specs.Limits.{NONE}
use Rattle.types.specs.declared.Inverted.{Inverted}
use Rattle.types.specs.declared.Impl.{Impl}
use Rattle.types.specs.declared.Impl.TheVariants.{Trait, Error}
use Rattle.scope.specs.Chart.{Env}
use Rattle.names.specs.declared.Name.{Name}
use Rattle.names.specs.Place.{name_from}
use Rattle.chart.specs.declared.Beside.{Beside}
use Rattle.chart.specs.declared.Env as lent
use Rattle.sound.specs.Tests.{env_in}
use Rattle.lent_kind.specs.declared.KindArgs.{KindArgs}

-- the sigil of a `Flex` in the twelve numbers of the four: its text, where it starts there, how long it is
abbrev pub sigil_in : List ℕ → ℕ → Name
sigil_in ws n = name_from (get_or ws (n * 3) 0) (get_or ws (n * 3 + 1) 0) (get_or ws (n * 3 + 2) 0)

-- "the four texts of `sigil` for `Flex`"
abbrev pub sigils_in : List ℕ → List Name
sigils_in ws = sigil_in ws 0 ∷ sigil_in ws 1 ∷ sigil_in ws 2 ∷ sigil_in ws 3 ∷ []

-- what stands beside the chart: the fn trait's number, and the four sigils' twelve
abbrev pub beside_in : ℕ → List ℕ → Beside
beside_in t ws = record { fn_trait = t; sigils = sigils_in ws }

-- chart, what is beside it, and the two texts
abbrev pub env_of : Bor (List ℕ) → ℕ → List ℕ → Bor (List ℕ) → Bor (List ℕ) → lent.Env
env_of chart t sigils rule text = record { chart = chart; beside = beside_in t sigils; texts = record { rule = rule; chart = text } }

-- any number but 0 is yes
abbrev pub set_in : ℕ → Bool
set_in n = not (eqb n 0)

-- a list, if a number says that there is one
abbrev pub list_if : ℕ → Bor (List ℕ) → option.Option (Bor (List ℕ))
list_if n l = pick (set_in n) (Some l) None

abbrev pub inverted_in : ℕ → Inverted
inverted_in n = record { 0 = set_in n }

-- a trait's number and its list; 4,294,967,295 is the error, whatever is lent with it
abbrev pub impl_in : ℕ → Bor (List ℕ) → Impl
impl_in n l = pick (eqb n NONE) Error (Trait n l)

-- a kind's code, number, `Flex` and own name
abbrev pub kind_args_in : ℕ → ℕ → ℕ → ℕ → ℕ → ℕ → KindArgs
kind_args_in c n f t i l = record { code = c; number = n; flex = f; name = record { text = t; start = i; len = l } }

-- what every call reads: the chart's words, what stands beside it, and the two texts
abbrev pub lent_env : List ℕ → ℕ → List ℕ → List ℕ → List ℕ → Env
lent_env chart t sigils rule text = env_in chart (beside_in t sigils) rule text
