-- Lent lists by their places: the i-th type of a list is the i-th word's, and each entry has a type.
-- Assumes nothing.
use mathlib.Core.Path.{◌≡◌, ◌∙◌}
use mathlib.Core.List.{List}
use Prim.Native.Nat.{ℕ, ◌≤◌, ◌<◌}
use lib.ListN.{length, length-map, get_or, get_or-map}
use Rattle.scope.specs.Types.{Ty, ty_of}
use Rattle.scope.specs.Sound.{Slot}
use Rattle.layout.specs.Words.{slots}
use Rattle.layout.proofs.ChildLaws.{length_slots}
use Rattle.store.specs.Entries.{entry_count, entry_types, types_in}

module _ (ts : List ℕ) (i : ℕ) where
  pub listed_below : i < length ts → i < length (types_in ts)
  listed_below h = rw (length-map ts ty_of) h

  pub listed_past : length ts ≤ i → length (types_in ts) ≤ i
  listed_past h = rw (length-map ts ty_of) h

  pub listed_at : get_or (types_in ts) i (ty_of 0) ≡ ty_of (get_or ts i 0)
  listed_at = get_or-map ty_of ts i 0

abbrev slot_type : Slot → Ty
slot_type s = ty_of s.type

module _ (es : List ℕ) where
  pub entries_long : length (entry_types es) ≡ entry_count es
  entries_long = length-map (slots es 0 (entry_count es)) slot_type ∙ length_slots es 0 (entry_count es)
