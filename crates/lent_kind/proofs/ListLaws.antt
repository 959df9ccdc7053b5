-- Listed types stand as entries without names: a kind whose row has no names, over these, is the kind over the list.
-- Assumes nothing.
use mathlib.Core.Path.{◌≡◌, refl, ap, ◌∙◌}
use mathlib.Core.Bool.{true, false}
use mathlib.Core.List.{List, [], ◌∷◌, map, map-map}
use Prim.Native.Nat.{ℕ, suc, ◌+◌, ◌%◌, ◌≤◌, ◌<◌}
use native.Mathlib.Omega.{arith}
use lib.ListN.{length, get_or, take}
use lib.Seq.{length-take-le}
use borrow.Author.Tests.{eq-eqb}
use Rattle.scope.specs.Base.{all, from}
use Rattle.scope.specs.Types.{ty_of}
use Rattle.scope.specs.Kinds.{NO_NAMES, STRUCT, UNION, rows, row_of}
use Rattle.scope.specs.Sound.{slot_bare}
use Rattle.scope.specs.Calls.{over}
use Rattle.layout.specs.Words.{CHILD_WORDS, child_words, slot_at, slots}
use Rattle.layout.proofs.Lists.{same_from, same_shift}
use Rattle.layout.proofs.ChildLaws.{slots_front}
use Rattle.layout.proofs.KindLaws.{names_none, fits_none, fits_clean}
use Rattle.store.specs.Entries.{entry_count, entry_types, types_in}
use Rattle.lent_kind.specs.declared.KindArgs.{KindArgs}
use Rattle.lent_kind.specs.Lent.{kind_lent, tidy, given, plain_args, bare_slot}

-- a list by its places
map_get : {A : Type 0} (f : ℕ → A) (l : List ℕ) → map (λ i. f (get_or l i 0)) (from 0 (length l)) ≡ map f l
map_get f [] = refl
map_get f (x ∷ l) =
    let one : (i : ℕ) → i < length l → f (get_or (x ∷ l) (1 + i) 0) ≡ f (get_or l (0 + i) 0) =
    λ i h. let p : 1 + i ≡ suc i = omega arith in let q : 0 + i ≡ i = omega arith in rw (p, q) refl in
    ap (λ (m : List _). f x ∷ m) (same_shift (λ i. f (get_or (x ∷ l) i 0)) (λ i. f (get_or l i 0)) 1 0 (length l) one ∙ map_get f l)

all_bare : (l : List ℕ) → all slot_bare (map bare_slot l) ≡ true
all_bare [] = refl
all_bare (w ∷ l) = all_bare l

-- the listed types stand as entries
pub record TypesPut (ts es : List ℕ) : Type 0 where
  pub each : (i : ℕ) → i < length ts → slot_at es i ≡ bare_slot (get_or ts i 0)

module _ (ts es : List ℕ) (o : TypesPut ts es) (room : child_words (length ts) ≤ length es) where
  abbrev part : List ℕ
  part = take (child_words (length ts)) es

  pub part_long : length part ≡ child_words (length ts)
  part_long = length-take-le (child_words (length ts)) es room

  part_count : entry_count part ≡ length ts
  part_count = omega (arith, part_long)

  part_slots : slots part 0 (entry_count part) ≡ map bare_slot ts
  part_slots =
      ap (slots part 0) part_count
      ∙ (slots_front es (length ts)
      ∙ (same_from (slot_at es) (λ i. bare_slot (get_or ts i 0)) 0 (length ts) (λ j a b. o.each j (omega arith)) ∙ map_get bare_slot ts))

  part_types : entry_types part ≡ types_in ts
  part_types = ap (map (λ s. ty_of s.type)) part_slots ∙ map-map (λ s. ty_of s.type) bare_slot ts

  module _ (c n : ℕ) (row : (row_of c).names ≡ NO_NAMES) where
    part_tidy : tidy (plain_args c n) part ≡ true
    part_tidy =
        let k = kind_lent (plain_args c n) false part in
        rw (eq-eqb (length part % CHILD_WORDS) 0 (omega (arith, part_long)))
        (fits_clean part k (entry_count part) (fits_none part k (entry_count part) (omega arith) refl row (rw part_slots (all_bare ts))))

    plain_given : given (plain_args c n) part ≡ over c n (types_in ts)
    unfolding given
    plain_given = rw (part_tidy, names_none part (kind_lent (plain_args c n) false part) row, part_types)

    pub part_given : {k : KindArgs} → k ≡ plain_args c n → given k part ≡ over c n (types_in ts)
    part_given q = ap (λ (k : KindArgs). given k part) q ∙ plain_given

-- the two kinds

pub struct_row : (row_of STRUCT).names ≡ NO_NAMES
unfolding row_of rows
struct_row = refl

pub union_row : (row_of UNION).names ≡ NO_NAMES
unfolding row_of rows
union_row = refl
