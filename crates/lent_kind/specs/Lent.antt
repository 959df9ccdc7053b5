-- A kind as it is lent, and what of scope's `new_call` it is: its numbers and its children's entries, each as the store has it. Numbers that belong to no
-- name of the kind, or to no whole entry, are one name too many, and 4 turns the kind back.
use Rattle.std.specs.Prelude.{List, [], ◌∷◌, ◌++◌, Bool, false, not, ◌&&◌, ℕ, ◌%◌, eqb, ltb, length}
use Rattle.std.proofs.Math.Option.{Option, none}
use Rattle.scope.specs.Base.{pick}
use Rattle.scope.specs.Limits.{MAX_WIDTH}
use Rattle.scope.specs.Names.{Name}
use Rattle.scope.specs.Chart.{Env}
use Rattle.scope.specs.Kinds.{makeable, defined}
use Rattle.scope.specs.Sound.{Slot, names_clean}
use Rattle.scope.specs.Refusals.{OUTSIDE, UNMAKEABLE, UNDEFINED}
use Rattle.scope.specs.Calls.{NewKind, kind_made}
use Rattle.names.specs.Place.{no_name}
use Rattle.layout.specs.Words.{CHILD_WORDS}
use Rattle.layout.specs.Meaning.{kind_cell, kind_means}
use Rattle.layout.specs.declared.Kind.{Kind}
use Rattle.make.specs.Given.{kind_over}
use Rattle.store.specs.Entries.{entry_types}
use Rattle.lent_kind.specs.declared.KindArgs.{KindArgs}

-- the lent numbers, with the flag d
abbrev pub with_flag : KindArgs → Bool → Kind
with_flag k d = record {
  code = k.code;
  number = k.number;
  dual = d;
  flex = k.flex;
  name = k.name;
  first = 0;
  count = 0;
}

-- the same as a kind over the entries; its names and children do not look at the flag
abbrev pub kind_lent : KindArgs → Bool → List ℕ → Kind
kind_lent k d es = kind_over (with_flag k d) es

-- the entries are whole, and names that the kind does not have are zeros
abbrev pub tidy : KindArgs → List ℕ → Bool
tidy k es = eqb (length es % CHILD_WORDS) 0 && names_clean (kind_cell es (kind_lent k false es))

abbrev pub surplus : Bool → List (Option Name)
surplus t = pick t [] (none ∷ [])

unfoldable pub given : KindArgs → List ℕ → NewKind
given k es = record {
  code = k.code;
  number = k.number;
  flex = k.flex;
  names = (kind_means es (kind_lent k false es)).head.names ++ surplus (tidy k es);
  kids = entry_types es;
}

-- a kind without `Flex` or names
abbrev pub plain_args : ℕ → ℕ → KindArgs
plain_args c n = record { code = c; number = n; flex = 0; name = no_name }

-- a child without a name
abbrev pub bare_slot : ℕ → Slot
bare_slot w = record { type = w; text = 0; start = 0; len = 0 }

-- 3, of a list of n types that are inside or not, and of 4 what the list alone decides
abbrev pub list_tests : Bool → ℕ → List (Bool × ℕ)
list_tests inside n = (not inside, OUTSIDE) ∷ (ltb MAX_WIDTH n, UNMAKEABLE) ∷ []

-- 4 and 5
abbrev pub kind_tests : Env → NewKind → List (Bool × ℕ)
kind_tests e a =
    (not (makeable e.texts (kind_made e a).head (length a.kids)), UNMAKEABLE) ∷ (not (defined e (kind_made e a).head), UNDEFINED) ∷ []
