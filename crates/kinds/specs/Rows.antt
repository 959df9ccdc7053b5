-- The code's row as scope's, and the two tests of a row that scope has as parts of `defined`.
use Rattle.std.specs.Prelude.{Bool, true, ◌||◌, ℕ, eqb}
use Rattle.scope.specs.Base.{pick}
use Rattle.scope.specs.Chart.{NO_SORT}
use Rattle.scope.specs.Kinds.{NO_CHILDREN, ONE, TWO, RUN, SIGNATURE, NOT_DUAL, DUAL, AS_CHART, NO_NUMBER, ANY_NUMBER, DEFINITION, NO_NAMES, OWN_NAME, CHILD_NAMES, PARAMETER_NAMES}
use Rattle.scope.specs.Kinds as scope
use Rattle.kinds.specs.declared.Shape.{Shape}
use Rattle.kinds.specs.declared.Shape.TheVariants as shape
use Rattle.kinds.specs.declared.SelfDual.{SelfDual}
use Rattle.kinds.specs.declared.SelfDual.TheVariants as dual
use Rattle.kinds.specs.declared.Number.{Number}
use Rattle.kinds.specs.declared.Number.TheVariants as number
use Rattle.kinds.specs.declared.Names.{Names}
use Rattle.kinds.specs.declared.Names.TheVariants as names
use Rattle.kinds.specs.declared.Row.{Row}

-- the numbers that scope has for a row's parts
abbrev pub shape_number : Shape → ℕ
shape_number shape.NoChildren = NO_CHILDREN
shape_number shape.One = ONE
shape_number shape.Two = TWO
shape_number shape.Run = RUN
shape_number shape.Signature = SIGNATURE

abbrev pub dual_number : SelfDual → ℕ
dual_number dual.No = NOT_DUAL
dual_number dual.Yes = DUAL
dual_number dual.AsChart = AS_CHART

abbrev pub number_number : Number → ℕ
number_number number.No = NO_NUMBER
number_number number.Any = ANY_NUMBER
number_number (number.Definition s o) = DEFINITION

abbrev pub names_number : Names → ℕ
names_number names.No = NO_NAMES
names_number names.Own = OWN_NAME
names_number names.OfChildren = CHILD_NAMES
names_number names.OfParameters = PARAMETER_NAMES

-- a definition's two sorts; what is no definition has none
abbrev pub sort_in : Number → ℕ
sort_in number.No = NO_SORT
sort_in number.Any = NO_SORT
sort_in (number.Definition s o) = s

abbrev pub other_in : Number → ℕ
other_in number.No = NO_SORT
other_in number.Any = NO_SORT
other_in (number.Definition s o) = o

abbrev pub as_row : Row → scope.Row
as_row r = scope.row (shape_number r.shape) (dual_number r.dual) (number_number r.number) (names_number r.names) (sort_in r.number) (other_in r.number)

-- the kind's number is a definition's
abbrev pub is_definition : scope.Row → Bool
is_definition r = eqb r.number DEFINITION

-- a definition of the sort s is one of the row's kind
abbrev pub sort_fits : scope.Row → ℕ → Bool
sort_fits r s = pick (is_definition r) (eqb s r.sort || eqb s r.other) true
