-- A kind over listed types whose children have no names: its entries, and what a call promises that makes one. The call is lent neither texts nor what stands
-- beside the chart: the words passed the tests with some, and with each with which they pass its outcome is `new`'s.
use Rattle.std.specs.Prelude.{◌≡◌, List, [], ◌∷◌, ℕ}
use Rattle.scope.specs.Kinds.{row_of, NO_NAMES}
use Rattle.scope.specs.Types.{Ty}
use Rattle.scope.specs.Refusals.{UNMAKEABLE}
use Rattle.scope.specs.Calls.{over, new_call}
use Rattle.chart.specs.declared.Beside.{Beside}
use Rattle.layout.specs.Words.{lent_of}
use Rattle.store.specs.Entries.{types_in}
use Rattle.sound.specs.Tests.{env_in}
use Rattle.promise.specs.Promise.{Reply, refusal, AsFound, Promised, Tested}

-- the listed types as entries without names
unfoldable pub entries_of : List ℕ → List ℕ
entries_of [] = []
entries_of (w ∷ ts) = w ∷ 0 ∷ 0 ∷ 0 ∷ entries_of ts

-- chart and store are tested, with some texts
pub record PassedBy (chart h ws ks : List ℕ) : Type 0 where
  pub beside : Beside
  pub rule : List ℕ
  pub text : List ℕ
  pub tested : Tested (env_in chart beside rule text) h ws ks

-- a kind whose row has no names is made as `new` makes it; any other is turned back with 4, and every word is as found
pub record OverPromised (chart : List ℕ) (code number : ℕ) (types : List ℕ) (r : Reply Ty) (h ws ks h' ws' ks' : List ℕ) : Type 0 where
  pub each : (row_of code).names ≡ NO_NAMES → (b : Beside) (rule text : List ℕ) → Tested (env_in chart b rule text) h ws ks
      → Promised (new_call (env_in chart b rule text) (lent_of h ws ks) (over code number (types_in types))) r h ws ks h' ws' ks'
  pub named : ((row_of code).names ≡ NO_NAMES → ⊥) → (r ≡ refusal UNMAKEABLE) × AsFound h ws ks h' ws' ks'
