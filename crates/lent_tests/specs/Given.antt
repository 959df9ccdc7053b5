-- What the public calls test of what is lent, once 2 and 8 do not turn them back: 3, then 4, then 5, each over all the lists.
use Rattle.std.specs.Prelude.{◌≡◌, List, [], ◌∷◌, ◌++◌, Bool, false, not, ◌&&◌, ◌||◌, ℕ, ◌%◌, eqb, length}
use Rattle.std.proofs.Math.Option.{Option, none}
use Rattle.scope.specs.Base.{pick, all}
use Rattle.scope.specs.Chart.{Env}
use Rattle.scope.specs.Types.{Ty}
use Rattle.scope.specs.Kinds.{OBJECT}
use Rattle.scope.specs.Nodes.{Store}
use Rattle.scope.specs.Unify.{ImplType}
use Rattle.scope.specs.Sound.{in_store}
use Rattle.scope.specs.Refusals.{OUTSIDE, UNMAKEABLE, UNDEFINED}
use Rattle.scope.specs.Calls.{first_broken, outside, too_many, Entries, bad_entries, impl_tests}
use Rattle.names.specs.Place.{no_name}
use Rattle.layout.specs.Words.{CHILD_WORDS}
use Rattle.layout.specs.declared.Kind.{Kind}
use Rattle.store.specs.Entries.{entry_names, entry_types}

-- 3, 4 and 5, by whether each stands
abbrev pub three_tests : Bool → Bool → Bool → List (Bool × ℕ)
three_tests o m d = (o, OUTSIDE) ∷ (m, UNMAKEABLE) ∷ (d, UNDEFINED) ∷ []

-- two types
unfoldable pub pair_tests : Ty → Ty → Store → List (Bool × ℕ)
pair_tests a b s = outside s (a ∷ b ∷ []) ∷ []

-- two lists of types, the first of another store's, o
unfoldable pub among_tests : Store → List Ty → List Ty → Store → List (Bool × ℕ)
among_tests o xs ys s =
    (not (all (in_store o.nodes) xs && all (in_store s.nodes) ys), OUTSIDE)
    ∷ (too_many xs || too_many ys, UNMAKEABLE)
    ∷ []

-- two lists of types
unfoldable pub list_tests : List Ty → List Ty → Store → List (Bool × ℕ)
list_tests xs ys s = outside s (xs ++ ys) ∷ (too_many xs || too_many ys, UNMAKEABLE) ∷ []

-- two signatures: parameters, and a return
unfoldable pub sig_tests : List Ty → Ty → List Ty → Ty → Store → List (Bool × ℕ)
sig_tests xs r ys q s = outside s (xs ++ (r ∷ ys ++ (q ∷ []))) ∷ (too_many xs || too_many ys, UNMAKEABLE) ∷ []

-- two objects
unfoldable pub object_tests : Env → Entries → Entries → Store → List (Bool × ℕ)
object_tests e a b s = outside s (a.types ++ b.types) ∷ (bad_entries e a || bad_entries e b, UNMAKEABLE) ∷ []

-- two impl types
unfoldable pub impls_tests : Env → ImplType → ImplType → Store → List (Bool × ℕ)
impls_tests e a b s = impl_tests e s (a ∷ b ∷ [])

-- one impl type
unfoldable pub one_impl_tests : Env → ImplType → Store → List (Bool × ℕ)
one_impl_tests e a s = impl_tests e s (a ∷ [])

-- the entries that numbers are, four an entry: their names and types. Numbers that are no whole entry are one name too many
abbrev pub entries_in : List ℕ → Entries
entries_in xs = record {
  names = pick (eqb (length xs % CHILD_WORDS) 0) (entry_names xs) (entry_names xs ++ (none ∷ []));
  types = entry_types xs;
}

-- the kind of an object with so many entries
abbrev pub object_of : ℕ → Kind
object_of n = record { code = OBJECT; number = 0; dual = false; flex = 0; name = no_name; first = 0; count = n }

-- of any store with n nodes, the first of these tests that breaks has the number that r tells, if one breaks
pub record FirstOf (n : ℕ) (ts : Store → List (Bool × ℕ)) (r : Option ℕ) : Type 0 where
  pub code : (s : Store) → length s.nodes ≡ n → first_broken (ts s) ≡ r
