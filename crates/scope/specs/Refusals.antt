-- "Turned back because of the input", "Turned back because of the state": each refusal's number with 01's words, and the tests that calls share.
use Rattle.std.specs.Prelude.{List, [], ◌∷◌, Bool, not, ◌||◌, ℕ, ◌+◌, ltb, length}
use Rattle.std.proofs.Math.Option.{Option, none, some}
use Rattle.scope.specs.Base.{pick, all}
use Rattle.scope.specs.Limits.{MAX_NODES, MAX_CHILDREN, MAX_LIST}
use Rattle.scope.specs.Chart.{Env, chart_ok}
use Rattle.scope.specs.Types.{Ty}
use Rattle.scope.specs.Nodes.{Store, opened}
use Rattle.scope.specs.Sound.{Lent, stray, reads, sound, in_store}

-- "opening: capacity above the limit or buffers too short"
abbrev pub UNOPENABLE : ℕ
UNOPENABLE = 1

-- "chart or texts break a limit, sort, flag or range"
abbrev pub BAD_CHART : ℕ
BAD_CHART = 2

-- "a type's node isn't in the store"
abbrev pub OUTSIDE : ℕ
OUTSIDE = 3

-- "a kind can't be made: bad code or name, over 255 children, object names not strictly ascending; over 255 listed types or parameters"
abbrev pub UNMAKEABLE : ℕ
UNMAKEABLE = 4

-- "a definition is absent or of another sort"
abbrev pub UNDEFINED : ℕ
UNDEFINED = 5

-- "an import with a parameter list reaches a Param with no entry"
abbrev pub NO_ENTRY : ℕ
NO_ENTRY = 6

-- "the answer's buffer is too short"
abbrev pub SHORT : ℕ
SHORT = 7

-- "store unsound"
abbrev pub UNSOUND : ℕ
UNSOUND = 8

-- "import's source unsound"
abbrev pub SOURCE_UNSOUND : ℕ
SOURCE_UNSOUND = 9

-- "nodes made plus those needed exceed the capacity"
abbrev pub NODES_FULL : ℕ
NODES_FULL = 10

-- "the same for children"
abbrev pub CHILDREN_FULL : ℕ
CHILDREN_FULL = 11

-- of 02's named states: "An unheld name, or one of a wrong length", "and a ninth", "both tested after 5, 12 first"
abbrev pub UNHELD : ℕ
UNHELD = 12

abbrev pub NO_PLACE : ℕ
NO_PLACE = 13

-- what a call comes to: a refusal, which "returns only its number and leaves all memory as found", or the answer and the store afterwards
pub data Outcome (A : Type 0) : Type 0 where
  refused : ℕ → Outcome A
  done : A → Store → Outcome A

-- tests in 01's order, each with the number that it turns the call back with: the first number that stands
abbrev pub first_broken : List (Bool × ℕ) → Option ℕ
first_broken [] = none
first_broken (t ∷ ts) = pick t.0 (some t.1) (first_broken ts)

-- an outcome behind its tests
abbrev pub or_refused : {A : Type 0} → Option ℕ → Outcome A → Outcome A
or_refused none o = o
or_refused (some n) o = refused n

abbrev pub judged : {A : Type 0} → List (Bool × ℕ) → Outcome A → Outcome A
judged ts o = or_refused (first_broken ts) o

-- the store that is lent; a stray one is refused before this is looked at
abbrev pub store_of : Lent → Store
store_of stray = opened 0 0
store_of (reads s) = s

-- an opening; `enough` says that the buffers are long enough for the capacities
abbrev pub open_test : ℕ → ℕ → Bool → Bool × ℕ
open_test n c enough = (ltb MAX_NODES n || (ltb MAX_CHILDREN c || not enough), UNOPENABLE)

-- what every call on a store can answer
abbrev pub lent_tests : Env → Lent → List (Bool × ℕ)
lent_tests e l = (not (chart_ok e), BAD_CHART) ∷ (not (sound e l), UNSOUND) ∷ []

-- a listed type's node isn't there
abbrev pub outside : Store → List Ty → Bool × ℕ
outside s ts = (not (all (in_store s.nodes) ts), OUTSIDE)

-- "over 255 listed types or parameters"
abbrev pub too_many : List Ty → Bool
too_many ts = ltb MAX_LIST (length ts)

-- n nodes and c children are needed
abbrev pub room_tests : Store → ℕ → ℕ → List (Bool × ℕ)
room_tests s n c = (ltb s.node_room (length s.nodes + n), NODES_FULL) ∷ (ltb s.child_room (s.children + c), CHILDREN_FULL) ∷ []

-- room for `have`, where `need` are to be written
abbrev pub short_for : ℕ → ℕ → Bool × ℕ
short_for have need = (ltb have need, SHORT)
