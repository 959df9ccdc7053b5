-- The tests of both stores: one law for each way out of them. A source that is sound reads the chart that the destination's tests have passed, so once they are
-- passed both stores are tested; and where one of them stands the call is turned back.
-- Assumes nothing.
use mathlib.Core.Path.{◌≡◌, refl, ap, sym, ◌∙◌}
use mathlib.Core.Bool.{Bool, true, false, not}
use mathlib.Core.List.{List, [], ◌∷◌, ◌++◌}
use mathlib.Core.Option.{Option, none, some}
use Rattle.std.specs.Prelude.{Err}
use Prim.Native.Nat.{ℕ}
use lib.ListN.{length}
use Rattle.scope.specs.Chart.{Env}
use Rattle.scope.specs.Types.{Ty}
use Rattle.scope.specs.Sound.{sound}
use Rattle.scope.specs.Refusals.{SOURCE_UNSOUND}
use Rattle.scope.specs.Needs.{needs}
use Rattle.scope.specs.Calls.{first_broken, store_of, lent_tests, import_call}
use Rattle.chart.specs.declared.Env as declared
use Rattle.chart.specs.Env.{chart_lent, chart_words_ok}
use Rattle.layout.specs.Words.{lent_of}
use Rattle.store.specs.Entries.{types_in}
use Rattle.refusals.specs.Codes.{number}
use Rattle.refusals.specs.declared.Refusal.{Refusal}
use Rattle.refusals.proofs.Laws.{test_stands, test_falls, broken_first}
use Rattle.sound.specs.Tests.{env_lent}
use Rattle.sound.proofs.Laws.{env_ok, env_sound}
use Rattle.promise.specs.Promise.{Tested}
use Rattle.promise.specs.Lists.{ListPromised}
use Rattle.promise.proofs.Laws.{lent_chart, lent_refused, lent_next}
use Rattle.tested_import.specs.Tests.{stores_tests, lists_tests, needs_tests, StoresTested}
use Rattle.tested_import.proofs.TestLaws.{dest_passed, source_passed}
use Rattle.tested_import.proofs.Laws.{import_back}

-- both stores

module _ (l : declared.Env) (h ws ks sh sw sk : List ℕ) where
  abbrev e : Env
  e = env_lent l

  abbrev last : List (Bool × ℕ)
  last = (not (sound e (lent_of sh sw sk)), SOURCE_UNSOUND) ∷ []

  pub stores_lent : {n : ℕ} → first_broken (lent_tests e (lent_of h ws ks)) ≡ some n → StoresTested e h ws ks sh sw sk (some n)
  stores_lent {n} q = record { first = lent_refused e h ws ks last n q }

  module _ (q : first_broken (lent_tests e (lent_of h ws ks)) ≡ none) {r : Bool} (o : r ≡ sound (chart_lent l) (lent_of sh sw sk)) where
    words_ok : chart_words_ok l.chart.now l.beside l.texts.rule.now l.texts.chart.now ≡ true
    words_ok = sym (env_ok l.chart.now l.beside l.texts.rule.now l.texts.chart.now) ∙ lent_chart e h ws ks q

    last_code : first_broken (stores_tests e (lent_of h ws ks) (lent_of sh sw sk)) ≡ first_broken ((not r, SOURCE_UNSOUND) ∷ [])
    last_code =
        lent_next e h ws ks last q
        ∙ ap (λ (y : Bool). first_broken ((not y, SOURCE_UNSOUND) ∷ []))
        (env_sound l.chart.now l.beside l.texts.rule.now l.texts.chart.now words_ok (lent_of sh sw sk) ∙ sym o)

    pub stores_source : r ≡ false → StoresTested e h ws ks sh sw sk (some SOURCE_UNSOUND)
    stores_source t = record { first = last_code ∙ test_stands SOURCE_UNSOUND [] (rw t refl) }

    pub stores_pass : r ≡ true → StoresTested e h ws ks sh sw sk none
    stores_pass t = record { first = last_code ∙ test_falls SOURCE_UNSOUND [] (rw t refl) }

-- the two ways on

module _ (e : Env) (h ws ks sh sw sk : List ℕ) where
  pub stores_back : {r : Refusal} → StoresTested e h ws ks sh sw sk (some (number r)) → (ts : List ℕ) (ps : Option (List Ty)) (out : List ℕ)
      → ListPromised (import_call e (lent_of h ws ks) (lent_of sh sw sk) (types_in ts) ps (length out)) (Err r) (length ts) h ws ks h ws ks out out
  stores_back {r} q ts ps out =
      let l = lent_of h ws ks in
      let src = lent_of sh sw sk in
      let rest = lists_tests (store_of src) (types_in ts) ps (store_of l) ++ needs_tests (needs (store_of src).nodes ps (types_in ts)) (store_of l) in
      import_back e h ws ks sh sw sk ts ps out record { first = broken_first (stores_tests e l src) rest (number r) q.first }

  pub both_tested : StoresTested e h ws ks sh sw sk none → Tested e h ws ks × Tested e sh sw sk
  both_tested q = (record { passed = dest_passed e h ws ks sh sw sk q.first }, record { passed = source_passed e h ws ks sh sw sk q.first })
