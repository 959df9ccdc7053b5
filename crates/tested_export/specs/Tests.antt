-- What an export tests before the answer's list, in 01's order: opening (1), the source (2, 8), the listed types (3, 4), and what is needed of the store
-- that is to be opened (10, 11).
use Rattle.std.specs.Prelude.{◌≡◌, Bool, List, [], ◌∷◌, ◌++◌, ℕ}
use Rattle.std.proofs.Math.Option.{Option, none}
use Rattle.scope.specs.Chart.{Env}
use Rattle.scope.specs.Types.{Ty}
use Rattle.scope.specs.Nodes.{Store, opened}
use Rattle.scope.specs.Needs.{Needs, needs, exported}
use Rattle.scope.specs.Sound.{Lent}
use Rattle.scope.specs.Refusals.{UNMAKEABLE}
use Rattle.scope.specs.Calls.{first_broken, store_of, open_test, lent_tests, outside, too_many, room_tests}
use Rattle.layout.specs.Words.{lent_of}
use Rattle.store.specs.Entries.{types_in}
use Rattle.refusals.specs.Opening.{enough}

-- one list of types
abbrev pub list_tests : List Ty → Store → List (Bool × ℕ)
list_tests ts s = outside s ts ∷ (too_many ts, UNMAKEABLE) ∷ []

-- what is needed of a store of n nodes and c children that has none yet
abbrev pub fresh_tests : ℕ → ℕ → Needs → List (Bool × ℕ)
fresh_tests n c k = room_tests (opened n c) k.nodes k.children

-- behind the opening
abbrev pub source_tests : Env → Lent → ℕ → ℕ → List Ty → List (Bool × ℕ)
source_tests e l n c ts =
    let s : Store = store_of l in
    lent_tests e l ++ (list_tests ts s ++ fresh_tests n c (needs s.nodes none (exported s ts)))

-- all but 7
abbrev pub export_tests : Env → Lent → ℕ → ℕ → Bool → List Ty → List (Bool × ℕ)
export_tests e l n c enough ts = open_test n c enough ∷ source_tests e l n c ts

-- r is the first of these that stands, if one does
pub record ExportTested (e : Env) (sh sw sk h ws ks : List ℕ) (n c : ℕ) (ts : List ℕ) (r : Option ℕ) : Type 0 where
  pub first : first_broken (export_tests e (lent_of sh sw sk) n c (enough n c h ws ks) (types_in ts)) ≡ r
