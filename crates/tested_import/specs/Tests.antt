-- What an import tests, in 01's order and in parts: both stores (2, 8, 9), both lists (3, 4), and what is needed (6, 10, 11).
use Rattle.std.specs.Prelude.{◌≡◌, Bool, not, ◌&&◌, ◌||◌, List, [], ◌∷◌, ◌++◌, ℕ, length}
use Rattle.std.proofs.Math.Option.{Option}
use Rattle.scope.specs.Base.{all}
use Rattle.scope.specs.Chart.{Env}
use Rattle.scope.specs.Types.{Ty}
use Rattle.scope.specs.Nodes.{Store}
use Rattle.scope.specs.Needs.{Needs, needs}
use Rattle.scope.specs.Sound.{Lent, sound, in_store}
use Rattle.scope.specs.Refusals.{OUTSIDE, UNMAKEABLE, NO_ENTRY, SOURCE_UNSOUND}
use Rattle.scope.specs.Calls.{first_broken, store_of, lent_tests, too_many, room_tests, import_list}
use Rattle.layout.specs.Words.{decode, store_in, lent_of}
use Rattle.store.specs.Entries.{types_in}
use Rattle.lent_tests.specs.Given.{FirstOf}

-- the destination, then the source
abbrev pub stores_tests : Env → Lent → Lent → List (Bool × ℕ)
stores_tests e l src = lent_tests e l ++ ((not (sound e src), SOURCE_UNSOUND) ∷ [])

-- listed types of the source's store o, and entries of the destination's s
abbrev pub lists_tests : Store → List Ty → Option (List Ty) → Store → List (Bool × ℕ)
lists_tests o ts ps s =
    (not (all (in_store o.nodes) ts && all (in_store s.nodes) (import_list ps)), OUTSIDE)
    ∷ (too_many ts || too_many (import_list ps), UNMAKEABLE)
    ∷ []

-- what is needed of the destination's store
abbrev pub needs_tests : Needs → Store → List (Bool × ℕ)
needs_tests k s = (k.missing, NO_ENTRY) ∷ room_tests s k.nodes k.children

-- all but 7
abbrev pub import_tests : Env → Lent → Lent → List Ty → Option (List Ty) → List (Bool × ℕ)
import_tests e l src ts ps =
    stores_tests e l src ++ (lists_tests (store_of src) ts ps (store_of l) ++ needs_tests (needs (store_of src).nodes ps ts) (store_of l))

-- n is the first of refusals 2, 8 and 9 that stands, if one does
pub record StoresTested (e : Env) (h ws ks sh sw sk : List ℕ) (n : Option ℕ) : Type 0 where
  pub first : first_broken (stores_tests e (lent_of h ws ks) (lent_of sh sw sk)) ≡ n

-- the same for 3 and 4, whatever the nodes are: a of the source and d of the destination
pub record ListsTested (ts : List ℕ) (a : ℕ) (ps : Option (List Ty)) (d : ℕ) (r : Option ℕ) : Type 0 where
  pub first : (o : Store) → length o.nodes ≡ a → FirstOf d (lists_tests o (types_in ts) ps) r

-- the same for 6, 10 and 11, whatever the destination's nodes and children are; the source has n nodes
pub record NeedsTested (h sw sk : List ℕ) (n : ℕ) (ps : Option (List Ty)) (ts : List ℕ) (r : Option ℕ) : Type 0 where
  pub first : (ws ks : List ℕ) → first_broken (needs_tests (needs (decode sw sk n) ps (types_in ts)) (store_in h ws ks)) ≡ r

-- the same for all of these
pub record ImportTested (e : Env) (h ws ks sh sw sk ts : List ℕ) (ps : Option (List Ty)) (n : Option ℕ) : Type 0 where
  pub first : first_broken (import_tests e (lent_of h ws ks) (lent_of sh sw sk) (types_in ts) ps) ≡ n
