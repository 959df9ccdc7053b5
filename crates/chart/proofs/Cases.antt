-- Charts that pass and charts that do not, by computation: the definition of the test says neither yes nor no to everything. Assumes nothing.
use mathlib.Core.Path.{◌≡◌, refl}
use mathlib.Core.Bool.{Bool, true, false}
use mathlib.Core.List.{List, [], ◌∷◌, ◌++◌}
use Prim.Native.Nat.{ℕ, zero, suc}
use lib.ListN.{replicate}
use Rattle.scope.specs.Base.{all, any}
use Rattle.scope.specs.Limits.{MAX_RECORDS, SIGILS, NONE}
use Rattle.scope.specs.Names.{in_text, name_ok}
use Rattle.scope.specs.Chart.{record_ok, chart_ok, STRUCT_SORT, TRAIT_SORT, TRAIT_FN_SORT}
use Rattle.names.specs.Place.{no_name}
use Rattle.chart.specs.Words.{runs}
use Rattle.chart.specs.Env.{chart_words_ok}

-- a record whose name and path are the chart text's first byte
made : ℕ → ℕ → ℕ → List ℕ
made sort dual trait = sort ∷ 1 ∷ 0 ∷ 1 ∷ 1 ∷ 0 ∷ 1 ∷ 0 ∷ dual ∷ trait ∷ []

copies : ℕ → List ℕ → List ℕ
copies zero ws = []
copies (suc n) ws = ws ++ copies n ws

-- empty sigils, and a chart text of one byte
passes : ℕ → List ℕ → Bool
passes fn_trait ws = chart_words_ok ws (record { fn_trait = fn_trait; sigils = replicate SIGILS no_name }) [] (97 ∷ [])

-- the chart that `sheet` opens
pub empty_passes : chart_words_ok [] (record { fn_trait = NONE; sigils = replicate SIGILS no_name }) [] [] ≡ true
unfolding chart_words_ok chart_ok runs in_text
empty_passes = refl

-- a struct with its flag, a trait fn whose trait is also the fn trait, as many records as the chart may have
pass :
    all
    (λ b. b)
    (passes NONE (made STRUCT_SORT 1 0)
    ∷ passes 1 (made TRAIT_FN_SORT 0 1 ++ made TRAIT_SORT 0 0)
    ∷ passes NONE (copies MAX_RECORDS (made STRUCT_SORT 0 0))
    ∷ [])
    ≡ true
unfolding made copies passes chart_words_ok chart_ok record_ok runs in_text name_ok
pass = refl

-- a flag of 2, a flag on a trait, a trait fn as its own trait, a struct as the fn trait, no record as the fn trait, a word too many, a record too many
refused :
    any
    (λ b. b)
    (passes NONE (made STRUCT_SORT 2 0)
    ∷ passes NONE (made TRAIT_SORT 1 0)
    ∷ passes NONE (made TRAIT_FN_SORT 0 0)
    ∷ passes 0 (made STRUCT_SORT 0 0)
    ∷ passes 1 (made TRAIT_SORT 0 0)
    ∷ passes NONE (made STRUCT_SORT 0 0 ++ (0 ∷ []))
    ∷ passes NONE (copies (suc MAX_RECORDS) (made STRUCT_SORT 0 0))
    ∷ [])
    ≡ false
unfolding made copies passes chart_words_ok chart_ok record_ok runs in_text name_ok
refused = refl
