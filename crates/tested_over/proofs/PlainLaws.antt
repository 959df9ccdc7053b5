-- One law for each way out of `test_plain`: 4 and 5 of a kind without names over n types, which look at its code, its number and n alone.
-- Assumes nothing.
use mathlib.Core.Path.{◌≡◌, refl, sym, ◌∙◌}
use mathlib.Core.Bool.{Bool, true, false, ◌&&◌}
use mathlib.Core.List.{List, []}
use mathlib.Core.Option.{none, some}
use Prim.Native.Nat.{ℕ, ◌≤◌, ◌<◌}
use lib.Dec.{eqb, ltb}
use lib.ListN.{length}
use borrow.Author.Tests.{lt-ltb, le-ltb, le-leb}
use Rattle.scope.specs.Base.{pick}
use Rattle.scope.specs.Limits.{MAX_WIDTH, KINDS}
use Rattle.scope.specs.Names.{Texts}
use Rattle.scope.specs.Chart.{Env}
use Rattle.scope.specs.Types.{Ty}
use Rattle.scope.specs.Kinds.{NO_NAMES, CLOSURE, row_of, shape_fits, flex_ok, number_ok, names_ok, makeable, defined}
use Rattle.scope.specs.Refusals.{UNMAKEABLE, UNDEFINED}
use Rattle.scope.specs.Calls.{first_broken, over, kind_made}
use Rattle.chart.specs.Env.{chart_in, chart_alone}
use Rattle.layout.specs.Meaning.{kind_means}
use Rattle.layout.specs.declared.Kind.{Kind}
use Rattle.kind_sound.proofs.Laws.{defined_chart}
use Rattle.lent_kind.specs.Lent.{kind_tests}

either : (b : Bool) → pick b true true ≡ true
either true = refl
either false = refl

no_flex : (c : ℕ) → flex_ok c 0 ≡ true
no_flex c = either (eqb c CLOSURE)

module _ (cs : List ℕ) (c n m : ℕ) (row : (row_of c).names ≡ NO_NAMES) (narrow : m ≤ MAX_WIDTH) (rule text : List ℕ) (ts : List Ty) (many : length ts ≡ m) where
  abbrev env : Env
  env = chart_in cs rule text

  nameless : (x : Texts) → names_ok x (row_of c).names [] m ≡ true
  unfolding names_ok
  nameless x = rw row refl

  made_over : makeable env.texts (kind_made env (over c n ts)).head (length ts)
      ≡ (ltb c KINDS && (shape_fits (row_of c).shape m && number_ok (row_of c).number n))
  unfolding makeable
  made_over = rw (many, le-leb m MAX_WIDTH narrow, nameless env.texts, no_flex c)

  pub code_unmade : KINDS ≤ c → first_broken (kind_tests env (over c n ts)) ≡ some UNMAKEABLE
  code_unmade h = rw (made_over, le-ltb c KINDS h)

  module _ (code : c < KINDS) where
    pub shape_unmade : shape_fits (row_of c).shape m ≡ false → first_broken (kind_tests env (over c n ts)) ≡ some UNMAKEABLE
    shape_unmade s = rw (made_over, lt-ltb c KINDS code, s)

    module _ (shape : shape_fits (row_of c).shape m ≡ true) where
      pub number_unmade : number_ok (row_of c).number n ≡ false → first_broken (kind_tests env (over c n ts)) ≡ some UNMAKEABLE
      number_unmade s = rw (made_over, lt-ltb c KINDS code, shape, s)

      module _ (number : number_ok (row_of c).number n ≡ true) (kind : Kind) {d : Bool} (a : kind.code ≡ c) (b : kind.number ≡ n)
          (r : d ≡ defined (chart_alone cs) (kind_means [] kind).head) where
        same_definition : defined env (kind_made env (over c n ts)).head ≡ defined env (kind_means [] kind).head
        unfolding defined kind_means
        same_definition = rw (a, b) refl

        defined_is : defined env (kind_made env (over c n ts)).head ≡ d
        defined_is = same_definition ∙ (defined_chart env cs refl [] kind ∙ sym r)

        pub undefined_over : d ≡ false → first_broken (kind_tests env (over c n ts)) ≡ some UNDEFINED
        undefined_over z = rw (made_over, lt-ltb c KINDS code, shape, number, defined_is ∙ z)

        pub over_passed : d ≡ true → first_broken (kind_tests env (over c n ts)) ≡ none
        over_passed z = rw (made_over, lt-ltb c KINDS code, shape, number, defined_is ∙ z)
