-- The store of `sheet` passes 2 and 8 over the empty chart that is lent beside it: the calls on a tested store may be called on it.
-- Assumes nothing.
use mathlib.Core.Path.{◌≡◌, refl, ap, subst, ◌∙◌}
use mathlib.Core.Bool.{true}
use mathlib.Core.List.{List, []}
use mathlib.Core.Option.{none}
use Prim.Native.Nat.{ℕ}
use Rattle.scope.specs.Names.{in_text}
use Rattle.scope.specs.Chart.{Env, chart_ok}
use Rattle.scope.specs.Sound.{Lent, reads}
use Rattle.scope.specs.Calls.{Outcome, first_broken, lent_tests, Printed}
use Rattle.scope.specs.Sheet.{sheet_env}
use Rattle.chart.specs.Words.{runs}
use Rattle.layout.specs.Words.{store_in, clean, lent_of}
use Rattle.layout.proofs.StoreLaws.{lent_clean}
use Rattle.sound.specs.Tests.{env_in}
use Rattle.sound.proofs.Laws.{sound_clean}
use Rattle.promise.specs.Promise.{Reply, Promised, Tested}
use Rattle.promise.specs.Prints.{PrintPromised}
use Rattle.tested_lean.specs.Each.{Passed}
use Rattle.tested_over.specs.Over.{PassedBy}
use Rattle.sheet_calls.specs.Store.{sheet_beside, SheetStore}

-- what is lent beside the store, as any call reads it, is scope's empty chart
pub sheet_env_lem : env_in [] sheet_beside [] [] ≡ sheet_env
unfolding env_in runs
sheet_env_lem = refl

chart_ok_lem : chart_ok sheet_env ≡ true
unfolding chart_ok in_text
chart_ok_lem = refl

module _ {h ws ks : List ℕ} (ok : SheetStore h ws ks) where
  abbrev lent : Lent
  lent = lent_of h ws ks

  pub sheet_clean : clean h ws ks ≡ true
  sheet_clean = sound_clean h ws ks sheet_env ok.sound

  pub sheet_reads : lent ≡ reads (store_in h ws ks)
  sheet_reads = lent_clean h ws ks sheet_clean

  pub tests_pass : first_broken (lent_tests sheet_env lent) ≡ none
  tests_pass = rw (chart_ok_lem, ok.sound)

  -- it is tested
  pub sheet_tested : {e : Env} → e ≡ sheet_env → Tested e h ws ks
  sheet_tested q = record { passed = rw q tests_pass }

  pub sheet_passed : Passed h ws
  sheet_passed = record { env = sheet_env; kids = ks; tested = sheet_tested refl }

  pub sheet_by : PassedBy [] h ws ks
  sheet_by = record { beside = sheet_beside; rule = []; text = []; tested = sheet_tested sheet_env_lem }

  by_sheet : {A : Type 0} {e : Env} → e ≡ sheet_env → (call : Env → Lent → A) → call e lent ≡ call sheet_env (reads (store_in h ws ks))
  by_sheet q call = ap (λ (x : Env). call x lent) q ∙ ap (call sheet_env) sheet_reads

  -- what a call promises over what is lent, it promises over scope's empty chart
  pub as_sheet : {A : Type 0} {e : Env} {r : Reply A} {h' ws' ks' : List ℕ} → e ≡ sheet_env → (call : Env → Lent → Outcome A)
      → Promised (call e lent) r h ws ks h' ws' ks' → Promised (call sheet_env (reads (store_in h ws ks))) r h ws ks h' ws' ks'
  as_sheet {A = A} {r = r} {h' = h'} {ws' = ws'} {ks' = ks'} q call p = subst (λ (o : Outcome A). Promised o r h ws ks h' ws' ks') (by_sheet q call) p

  -- and what a printer does
  pub as_printed : {e : Env} {r : Reply ℕ} {buf : List ℕ} → e ≡ sheet_env → (call : Env → Lent → Printed)
      → PrintPromised (call e lent) r (store_in h ws ks) buf → PrintPromised (call sheet_env (reads (store_in h ws ks))) r (store_in h ws ks) buf
  as_printed {r = r} {buf = buf} q call p = subst (λ (o : Printed). PrintPromised o r (store_in h ws ks) buf) (by_sheet q call) p
