-- A public call on any numbers tests chart and store and then is its own form for a tested store. So of each call two things are left to say, and they are
-- the same for all: where 2 or 8 stands the call's outcome is that refusal, whatever its other tests and its work are; where none does the words are tested.
-- Assumes nothing.
use mathlib.Core.Path.{◌≡◌, refl, sym, ap}
use mathlib.Core.Bool.{Bool, true, false, not}
use mathlib.Core.List.{List}
use mathlib.Core.Option.{Option, none, some}
use Prim.Native.Nat.{ℕ}
use Rattle.std.specs.Prelude.{Err}
use Rattle.scope.specs.Base.{pick}
use Rattle.scope.specs.Chart.{Env, chart_ok}
use Rattle.scope.specs.Types.{Ty}
use Rattle.scope.specs.Nodes.{Store}
use Rattle.scope.specs.Sound.{sound}
use Rattle.scope.specs.Refusals.{BAD_CHART, UNSOUND}
use Rattle.scope.specs.Calls.{Outcome, refused, or_refused, first_broken, lent_tests, Printed, or_unprinted}
use Rattle.layout.specs.Words.{lent_of}
use Rattle.refusals.specs.declared.Refusal.{Refusal}
use Rattle.refusals.specs.Codes.{number}
use Rattle.promise.specs.Promise.{refusal, Promised, Tested}
use Rattle.promise.specs.Lists.{ListPromised}
use Rattle.promise.specs.Prints.{PrintPromised}
use Rattle.refusals.proofs.Laws.{none_some}
use Rattle.promise.proofs.Laws.{promised_back}

-- no refusal stands
pub tested : {e : Env} {h ws ks : List ℕ} → first_broken (lent_tests e (lent_of h ws ks)) ≡ none → Tested e h ws ks
tested q = record { passed = q }

-- the tests of 2 and 8, and what the tests behind them give
abbrev behind : Bool → Bool → Option ℕ → Option ℕ
behind c s rest = pick (not c) (some BAD_CHART) (pick (not s) (some UNSOUND) rest)

stands : (c s : Bool) (n : ℕ) (rest : Option ℕ) → behind c s none ≡ some n → behind c s rest ≡ some n
stands false s n rest q = q
stands true false n rest q = q
stands true true n rest q = none_some n (sym q)

module _ (e : Env) (h ws ks : List ℕ) (r : Refusal) (q : first_broken (lent_tests e (lent_of h ws ks)) ≡ some (number r)) (rest : Option ℕ) where
  abbrev first : Option ℕ
  first = behind (chart_ok e) (sound e (lent_of h ws ks)) rest

  lent_first : first ≡ some (number r)
  lent_first = stands (chart_ok e) (sound e (lent_of h ws ks)) (number r) rest q

  pub told_back : {A : Type 0} (o : Outcome A) → or_refused first o ≡ refused (number r)
  told_back o = ap (λ (x : Option ℕ). or_refused x o) lent_first

  pub did_back : {A : Type 0} (o : Outcome A) → Promised (or_refused first o) (refusal (number r)) h ws ks h ws ks
  did_back o = promised_back (told_back o)

  pub list_back : (o : Outcome (List Ty)) {k : ℕ} {out : List ℕ} → ListPromised (or_refused first o) (Err r) k h ws ks h ws ks out out
  list_back o = record { promised = did_back o; rest = refl; kept = λ y. refl }

  pub print_back : (s : Store) {buf : List ℕ} (p : Printed) → PrintPromised (or_unprinted first buf p) (refusal (number r)) s buf
  print_back s p = record { outcome = rw lent_first; buffer = rw lent_first }
