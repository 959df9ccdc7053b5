-- What an import tests, part by part: tested stores pass the tests of both stores, and what the tests of both stores and of both lists say once they are passed.
-- Assumes nothing.
use mathlib.Core.Path.{◌≡◌, refl}
use mathlib.Core.Bool.{Bool, true, false, not, ◌&&◌, ◌||◌}
use mathlib.Core.List.{List, [], ◌∷◌}
use mathlib.Core.Option.{Option, none}
use Prim.Native.Nat.{ℕ}
use lib.ListN.{length}
use borrow.Author.Tests.{not-false}
use Rattle.scope.specs.Base.{all}
use Rattle.scope.specs.Chart.{Env}
use Rattle.scope.specs.Types.{Ty}
use Rattle.scope.specs.Nodes.{Store}
use Rattle.scope.specs.Sound.{sound, in_store}
use Rattle.scope.specs.Refusals.{OUTSIDE, UNMAKEABLE, SOURCE_UNSOUND}
use Rattle.scope.specs.Calls.{first_broken, lent_tests, too_many, import_list}
use Rattle.scope.proofs.TestLaws.{or_no}
use Rattle.names.proofs.Tests.{both}
use Rattle.layout.specs.Words.{lent_of}
use Rattle.store.specs.Entries.{types_in}
use Rattle.refusals.proofs.Laws.{test_passed, tests_passed, passed_first, passed_next}
use Rattle.promise.specs.Promise.{Tested}
use Rattle.promise.proofs.Laws.{lent_chart, lent_sound}
use Rattle.lent_tests.specs.Given.{FirstOf, among_tests}
use Rattle.tested_import.specs.Tests.{stores_tests, lists_tests, StoresTested, ListsTested}

-- both stores

pub stores_tested : {e : Env} {h ws ks sh sw sk : List ℕ} → Tested e h ws ks → Tested e sh sw sk
    → StoresTested e h ws ks sh sw sk none
stores_tested {e} {h} {ws} {ks} {sh} {sw} {sk} d s =
    record { first = rw (lent_chart e h ws ks d.passed, lent_sound e h ws ks d.passed, lent_sound e sh sw sk s.passed) refl }

-- what they say once they are passed: 2 and 8 would turn neither back
module _ (e : Env) (h ws ks sh sw sk : List ℕ) (q : first_broken (stores_tests e (lent_of h ws ks) (lent_of sh sw sk)) ≡ none) where
  abbrev test : Bool
  test = not (sound e (lent_of sh sw sk))

  pub dest_passed : first_broken (lent_tests e (lent_of h ws ks)) ≡ none
  dest_passed = passed_first (lent_tests e (lent_of h ws ks)) ((test, SOURCE_UNSOUND) ∷ []) q

  pub source_passed : first_broken (lent_tests e (lent_of sh sw sk)) ≡ none
  source_passed =
      rw (lent_chart e h ws ks dest_passed, test_passed test SOURCE_UNSOUND [] (passed_next (lent_tests e (lent_of h ws ks)) ((test, SOURCE_UNSOUND) ∷ []) q)) refl

-- both lists

pub lists_told : {ts : List ℕ} (es : List ℕ) {a d : ℕ} (ps : Option (List Ty)) {r : Option ℕ} → types_in es ≡ import_list ps
    → ((o : Store) → length o.nodes ≡ a → FirstOf d (among_tests o (types_in ts) (types_in es)) r) → ListsTested ts a ps d r
unfolding among_tests
lists_told es ps e f = record { first = λ o m. record { code = λ s l. rw (← e) ((f o m).code s l) } }

-- what they say once they are passed
module _ (o s : Store) (ts : List Ty) (ps : Option (List Ty)) (q : first_broken (lists_tests o ts ps s) ≡ none) where
  abbrev listed : Bool
  listed = all (in_store o.nodes) ts

  abbrev entries : Bool
  entries = all (in_store s.nodes) (import_list ps)

  abbrev many : Bool
  many = too_many ts || too_many (import_list ps)

  pub listed_inside : listed ≡ true
  listed_inside = (both listed entries (not-false (listed && entries) (test_passed (not (listed && entries)) OUTSIDE ((many, UNMAKEABLE) ∷ []) q))).0

  pub entries_few : too_many (import_list ps) ≡ false
  entries_few =
      (or_no (too_many ts) (too_many (import_list ps))
      (test_passed many UNMAKEABLE [] (tests_passed (not (listed && entries)) OUTSIDE ((many, UNMAKEABLE) ∷ []) q))).1
