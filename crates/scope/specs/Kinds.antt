-- The fifteen kinds: "one fixed table of rows, each giving children and self-duality", and when a kind can't be made (refusals 4 and 5).
use Rattle.std.specs.Prelude.{List, [], ◌∷◌, map, Bool, true, false, not, ◌&&◌, ◌||◌, ℕ, suc, eqb, ltb, leb, length, get_or}
use Rattle.std.proofs.Math.Option.{Option}
use Rattle.scope.specs.Base.{pick, all}
use Rattle.scope.specs.Limits.{MAX_WIDTH, MAX_FLEX, KINDS}
use Rattle.scope.specs.Names.{Texts, Name, bytes_or, named, named_or_none, ascending}
use Rattle.scope.specs.Chart.{OPAQUE_SORT, STRUCT_SORT, ENUM_SORT, UNION_SORT, CONCRETE_FN_SORT, CONST_SORT, TRAIT_FN_SORT, NO_SORT, Env, sort_at, dual_at}

-- "Codes are 0 to 14 in `TypeKind`'s order in 000"
abbrev pub PARAM : ℕ
PARAM = 0

abbrev pub TUPLE : ℕ
TUPLE = 1

abbrev pub OBJECT : ℕ
OBJECT = 2

abbrev pub OPAQUE : ℕ
OPAQUE = 3

abbrev pub STRUCT : ℕ
STRUCT = 4

abbrev pub ENUM : ℕ
ENUM = 5

abbrev pub UNION : ℕ
UNION = 6

abbrev pub FN : ℕ
FN = 7

abbrev pub CLOSURE : ℕ
CLOSURE = 8

abbrev pub REF : ℕ
REF = 9

abbrev pub KEY : ℕ
KEY = 10

abbrev pub IF_CONST : ℕ
IF_CONST = 11

abbrev pub NEVER : ℕ
NEVER = 12

abbrev pub DEFAULT : ℕ
DEFAULT = 13

abbrev pub ERROR : ℕ
ERROR = 14

-- a row's child shape: this many children for 0, 1 and 2
abbrev pub NO_CHILDREN : ℕ
NO_CHILDREN = 0

abbrev pub ONE : ℕ
ONE = 1

abbrev pub TWO : ℕ
TWO = 2

abbrev pub RUN : ℕ
RUN = 3

-- "its parameters, then its return"
abbrev pub SIGNATURE : ℕ
SIGNATURE = 4

-- a row's self-duality: no, yes, "as the chart's flag says"
abbrev pub NOT_DUAL : ℕ
NOT_DUAL = 0

abbrev pub DUAL : ℕ
DUAL = 1

abbrev pub AS_CHART : ℕ
AS_CHART = 2

-- what the kind's number is: none, "any u32", a definition's
abbrev pub NO_NUMBER : ℕ
NO_NUMBER = 0

abbrev pub ANY_NUMBER : ℕ
ANY_NUMBER = 1

abbrev pub DEFINITION : ℕ
DEFINITION = 2

-- what names the kind has: none, its own, one for each child, "for each parameter, a name or none"
abbrev pub NO_NAMES : ℕ
NO_NAMES = 0

abbrev pub OWN_NAME : ℕ
OWN_NAME = 1

abbrev pub CHILD_NAMES : ℕ
CHILD_NAMES = 2

abbrev pub PARAMETER_NAMES : ℕ
PARAMETER_NAMES = 3

-- a row; a definition has one of the two sorts
pub record Row : Type 0 where
  pub shape : ℕ
  pub dual : ℕ
  pub number : ℕ
  pub names : ℕ
  pub sort : ℕ
  pub other : ℕ

abbrev pub row : ℕ → ℕ → ℕ → ℕ → ℕ → ℕ → Row
row a b c d s o = record { shape = a; dual = b; number = c; names = d; sort = s; other = o }

unfoldable pub rows : List Row
rows =
    row NO_CHILDREN NOT_DUAL ANY_NUMBER OWN_NAME NO_SORT NO_SORT
    ∷ row RUN DUAL NO_NUMBER NO_NAMES NO_SORT NO_SORT
    ∷ row RUN DUAL NO_NUMBER CHILD_NAMES NO_SORT NO_SORT
    ∷ row RUN NOT_DUAL DEFINITION NO_NAMES OPAQUE_SORT OPAQUE_SORT
    ∷ row RUN AS_CHART DEFINITION NO_NAMES STRUCT_SORT STRUCT_SORT
    ∷ row RUN NOT_DUAL DEFINITION NO_NAMES ENUM_SORT ENUM_SORT
    ∷ row RUN AS_CHART DEFINITION NO_NAMES UNION_SORT UNION_SORT
    ∷ row NO_CHILDREN NOT_DUAL DEFINITION NO_NAMES CONCRETE_FN_SORT TRAIT_FN_SORT
    ∷ row SIGNATURE NOT_DUAL ANY_NUMBER PARAMETER_NAMES NO_SORT NO_SORT
    ∷ row ONE NOT_DUAL NO_NUMBER NO_NAMES NO_SORT NO_SORT
    ∷ row NO_CHILDREN NOT_DUAL NO_NUMBER OWN_NAME NO_SORT NO_SORT
    ∷ row TWO DUAL DEFINITION NO_NAMES CONST_SORT CONST_SORT
    ∷ row NO_CHILDREN NOT_DUAL NO_NUMBER NO_NAMES NO_SORT NO_SORT
    ∷ row NO_CHILDREN DUAL NO_NUMBER NO_NAMES NO_SORT NO_SORT
    ∷ row NO_CHILDREN DUAL NO_NUMBER NO_NAMES NO_SORT NO_SORT
    ∷ []

-- what a code above 14 has; no kind has it
abbrev pub no_row : Row
no_row = row NO_CHILDREN NOT_DUAL NO_NUMBER NO_NAMES NO_SORT NO_SORT

unfoldable pub row_of : ℕ → Row
unfolding rows
row_of c = get_or rows c no_row

-- what of a kind is neither child nor inversion: its code, its number (a Param's, a Closure's, a definition's, else 0), its self-dual flag
-- (a Struct's or Union's, else false), its `Flex` (a Closure's, else 0), its names (a Param's or Key's own; an Object's, one for each child;
-- a Closure's, a name or none for each parameter)
pub record Head : Type 0 where
  pub code : ℕ
  pub number : ℕ
  pub dual : Bool
  pub flex : ℕ
  pub names : List (Option Name)

-- self_dual: a kind's row, or its flag
abbrev pub dual_by : ℕ → Bool → Bool
dual_by d flag = pick (eqb d AS_CHART) flag (eqb d DUAL)

unfoldable pub self_dual : Head → Bool
self_dual h = dual_by (row_of h.code).dual h.dual

-- the flag that the chart gives a kind
unfoldable pub flag_of : Env → ℕ → ℕ → Bool
flag_of e c n = pick (eqb (row_of c).dual AS_CHART) (dual_at e n) false

-- a kind is made with the chart's flag
abbrev pub head_of : Env → ℕ → ℕ → ℕ → List (Option Name) → Head
head_of e c n x ns = record { code = c; number = n; dual = flag_of e c n; flex = x; names = ns }

-- n children fit the shape
abbrev pub shape_fits : ℕ → ℕ → Bool
shape_fits s n = pick (eqb s RUN) true (pick (eqb s SIGNATURE) (leb 1 n) (eqb n s))

-- names of a kind with n children
abbrev pub own_name_ok : Texts → List (Option Name) → Bool
own_name_ok x ns = eqb (length ns) 1 && all (named x) ns

-- "object names not strictly ascending" can't be made
unfoldable pub object_names_ok : Texts → List (Option Name) → Bool
object_names_ok x ns = all (named x) ns && ascending (map (bytes_or x) ns)

unfoldable pub names_ok : Texts → ℕ → List (Option Name) → ℕ → Bool
names_ok x d ns n =
    pick (eqb d OWN_NAME) (own_name_ok x ns)
    (pick (eqb d CHILD_NAMES) (eqb (length ns) n && object_names_ok x ns)
    (pick (eqb d PARAMETER_NAMES) (eqb (suc (length ns)) n && all (named_or_none x) ns)
    (eqb (length ns) 0)))

-- "`Flex` 0 to 3"; a kind without one has 0
abbrev pub flex_ok : ℕ → ℕ → Bool
flex_ok c x = pick (eqb c CLOSURE) (leb x MAX_FLEX) (eqb x 0)

-- a kind that has no number has 0
abbrev pub number_ok : ℕ → ℕ → Bool
number_ok d n = pick (eqb d NO_NUMBER) (eqb n 0) true

-- refusal 4 stands where this fails: "a kind can't be made: bad code or name, over 255 children, object names not strictly ascending"
unfoldable pub makeable : Texts → Head → ℕ → Bool
makeable x h n =
    let r : Row = row_of h.code in
    ltb h.code KINDS
    && (leb n MAX_WIDTH
    && (shape_fits r.shape n
    && (names_ok x r.names h.names n
    && (flex_ok h.code h.flex && number_ok r.number h.number))))

-- refusal 5 stands where this fails: "a definition is absent or of another sort"
unfoldable pub defined : Env → Head → Bool
defined e h =
    let r : Row = row_of h.code in
    let s : ℕ = sort_at e h.number in
    pick (eqb r.number DEFINITION) (eqb s r.sort || eqb s r.other) true

-- "a flag that isn't the chart's" is unsound
abbrev pub eq_bool : Bool → Bool → Bool
eq_bool true b = b
eq_bool false b = not b

unfoldable pub flag_is : Env → Head → Bool
flag_is e h = eq_bool h.dual (flag_of e h.code h.number)
