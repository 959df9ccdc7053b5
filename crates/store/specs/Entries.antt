-- Lists that are lent. Children lie as in a store, four words an entry: a type and its name's text, start and length; words past the last whole entry are
-- no entry. Types alone have a word each.
use Rattle.std.specs.Prelude.{List, map, ℕ, ◌/◌, length}
use Rattle.std.proofs.Math.Option.{Option}
use Rattle.scope.specs.Names.{Name}
use Rattle.scope.specs.Types.{Ty, ty_of}
use Rattle.scope.specs.Sound.{slot_name}
use Rattle.layout.specs.Words.{CHILD_WORDS, slots}

abbrev pub entry_count : List ℕ → ℕ
entry_count es = length es / CHILD_WORDS

abbrev pub entry_types : List ℕ → List Ty
entry_types es = map (λ s. ty_of s.type) (slots es 0 (entry_count es))

abbrev pub entry_names : List ℕ → List (Option Name)
entry_names es = map slot_name (slots es 0 (entry_count es))

abbrev pub types_in : List ℕ → List Ty
types_in ts = map ty_of ts
