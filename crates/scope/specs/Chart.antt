-- "From a type to its root": the chart, what stands beside it, and refusal 2.
use Rattle.std.specs.Prelude.{List, Bool, ◌&&◌, ◌||◌, ℕ, eqb, leb, length, get_or}
use Rattle.scope.specs.Base.{pick, all}
use Rattle.scope.specs.Limits.{MAX_NAME, MAX_RECORDS, MAX_SORT, SIGILS, NONE}
use Rattle.scope.specs.Names.{Texts, Name, name, in_text, name_ok, texts_ok}

-- "sort (opaque, struct, enum, union, concrete fn, const, trait, trait fn: 0 to 7)"
abbrev pub OPAQUE_SORT : ℕ
OPAQUE_SORT = 0

abbrev pub STRUCT_SORT : ℕ
STRUCT_SORT = 1

abbrev pub ENUM_SORT : ℕ
ENUM_SORT = 2

abbrev pub UNION_SORT : ℕ
UNION_SORT = 3

abbrev pub CONCRETE_FN_SORT : ℕ
CONCRETE_FN_SORT = 4

abbrev pub CONST_SORT : ℕ
CONST_SORT = 5

abbrev pub TRAIT_SORT : ℕ
TRAIT_SORT = 6

abbrev pub TRAIT_FN_SORT : ℕ
TRAIT_FN_SORT = 7

-- no sort: what a number that the chart lacks has
abbrev pub NO_SORT : ℕ
NO_SORT = 8

-- "one for each definition: sort", "name, path, def number, self-dual flag 0 or 1, and for a trait fn its trait"
pub record Record : Type 0 where
  pub sort : ℕ
  pub name : Name
  pub path : Name
  pub def : ℕ
  pub dual : ℕ
  pub trait : ℕ

-- what every call reads and none writes: the chart, the number of the builtin fn trait, "the four texts of `sigil` for `Flex`", the two texts
pub record Env : Type 0 where
  pub records : List Record
  pub fn_trait : ℕ
  pub sigils : List Name
  pub texts : Texts

-- the record of no definition
abbrev pub no_record : Record
no_record = record { sort = NO_SORT; name = name 0 0 0; path = name 0 0 0; def = 0; dual = 0; trait = 0 }

-- "A definition's number is its record's place, from 0"
abbrev pub record_at : Env → ℕ → Record
record_at e n = get_or e.records n no_record

abbrev pub sort_at : Env → ℕ → ℕ
sort_at e n = (record_at e n).sort

-- the chart's self-dual flag
abbrev pub dual_at : Env → ℕ → Bool
dual_at e n = eqb (record_at e n).dual 1

-- the sigil of a `Flex`
abbrev pub sigil_at : Env → ℕ → Name
sigil_at e n = get_or e.sigils n (name 0 0 0)

abbrev pub is_trait : Env → ℕ → Bool
is_trait e n = eqb (sort_at e n) TRAIT_SORT

-- "a flag or trait that its sort lacks is 0"
abbrev pub flag_ok : Record → Bool
flag_ok r = pick (eqb r.sort STRUCT_SORT || eqb r.sort UNION_SORT) (leb r.dual 1) (eqb r.dual 0)

abbrev pub trait_ok : Env → Record → Bool
trait_ok e r = pick (eqb r.sort TRAIT_FN_SORT) (is_trait e r.trait) (eqb r.trait 0)

-- a record: sort, name, path, flag, trait
unfoldable pub record_ok : Env → Record → Bool
record_ok e r = leb r.sort MAX_SORT && (name_ok e.texts r.name && (name_ok e.texts r.path && (flag_ok r && trait_ok e r)))

-- "the four texts of `sigil` for `Flex`, which alone may be empty"
abbrev pub sigil_ok : Texts → Name → Bool
sigil_ok x n = in_text x n && leb n.len MAX_NAME

abbrev pub sigils_ok : Env → Bool
sigils_ok e = eqb (length e.sigils) SIGILS && all (sigil_ok e.texts) e.sigils

-- "4,294,967,295: none; any other must be a trait's record"
abbrev pub fn_trait_ok : Env → Bool
fn_trait_ok e = eqb e.fn_trait NONE || is_trait e e.fn_trait

-- refusal 2 stands where this fails: "chart or texts break a limit, sort, flag or range"
unfoldable pub chart_ok : Env → Bool
chart_ok e =
    leb (length e.records) MAX_RECORDS
    && (texts_ok e.texts
    && (all (record_ok e) e.records && (fn_trait_ok e && sigils_ok e)))
