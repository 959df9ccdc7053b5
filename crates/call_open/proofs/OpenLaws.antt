-- Opening: one law for each way out of it, from what its test tells.
-- Assumes nothing.
use mathlib.Core.Path.{◌≡◌}
use mathlib.Core.List.{List, [], ◌∷◌}
use mathlib.Core.Option.{none, some}
use Prim.Native.Nat.{ℕ}
use Rattle.scope.specs.Nodes.{opened}
use Rattle.scope.specs.Calls.{first_broken, open_test, open_call, done}
use Rattle.store.specs.Holds.{Became}
use Rattle.refusals.specs.Opening.{enough}
use Rattle.refusals.proofs.Laws.{judged_refused, judged_done}
use Rattle.promise.specs.Promise.{value, refusal, Promised}
use Rattle.promise.proofs.Laws.{promised_back, promised_done}

module _ (n c : ℕ) (h ws ks : List ℕ) where
  pub open_back : {r : ℕ} → first_broken (open_test n c (enough n c h ws ks) ∷ []) ≡ some r → Promised (open_call n c (enough n c h ws ks)) (refusal r) h ws ks h ws ks
  unfolding open_call
  open_back {r} q = promised_back (judged_refused (open_test n c (enough n c h ws ks) ∷ []) (done tt (opened n c)) r q)

  pub open_done : {h' ws' ks' : List ℕ} → first_broken (open_test n c (enough n c h ws ks) ∷ []) ≡ none → Became h ws ks h' ws' ks' (opened n c)
      → Promised (open_call n c (enough n c h ws ks)) (value tt) h ws ks h' ws' ks'
  unfolding open_call
  open_done q b = promised_done (judged_done (open_test n c (enough n c h ws ks) ∷ []) (done tt (opened n c)) q) b
