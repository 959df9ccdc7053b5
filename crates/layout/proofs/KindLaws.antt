-- The laws of a kind: its head is what its fields say, its names are those that its row has, and it may stand in a node if its children lie among those
-- made and the names that its row lacks are zeros. Makers and readers of kinds use these and open neither kind_means nor kind_fits.
-- Assumes nothing.
use mathlib.Core.Path.{◌≡◌, refl, ◌∙◌}
use mathlib.Core.Bool.{Bool, true, false}
use mathlib.Core.Option.{Option}
use mathlib.Core.List.{List, [], ◌∷◌, map}
use Prim.Native.Nat.{ℕ, zero, suc, ◌+◌, ◌-◌, ◌<◌, ◌≤◌}
use native.Mathlib.Omega.{arith}
use lib.Dec.{eqb, leb}
use lib.ListN.{length, length-map}
use borrow.Author.Tests.{le-leb}
use Rattle.scope.specs.Base.{pick, all}
use Rattle.scope.specs.Names.{Name}
use Rattle.scope.specs.Types.{ty_of}
use Rattle.scope.specs.Kinds.{row_of, NO_NAMES, OWN_NAME, CHILD_NAMES, PARAMETER_NAMES}
use Rattle.scope.specs.Sound.{Slot, zeros, name_in, slot_name, slot_bare, front, names_clean}
use Rattle.layout.specs.Words.{slot_at, slots}
use Rattle.layout.specs.Meaning.{kind_cell, kind_means, kind_fits, named_of}
use Rattle.layout.specs.declared.Kind.{Kind}
use Rattle.layout.proofs.Lists.{and_both, and_right, same_shift}
use Rattle.layout.proofs.ChildLaws.{length_slots, front_slots}

-- how many names there are, by the row
count_by : (a b c : Bool) (o : Option Name) (ks : List ℕ) (i n : ℕ)
    → length (pick a (o ∷ []) (pick b (map slot_name (slots ks i n)) (pick c (map slot_name (front (slots ks i n))) [])))
    ≡ pick a 1 (pick b n (pick c (n - 1) 0))
count_by true b c o ks i n = refl
count_by false true c o ks i n = length-map (slots ks i n) slot_name ∙ length_slots ks i n
count_by false false true o ks i zero = refl
count_by false false true o ks i (suc n) =
    let z : suc n - 1 ≡ n = omega arith in
    rw (z, front_slots ks i n) (length-map (slots ks i n) slot_name ∙ length_slots ks i n)
count_by false false false o ks i n = refl

module _ (ks : List ℕ) (k : Kind) where
  pub kind_code : (kind_means ks k).head.code ≡ k.code
  unfolding kind_means
  kind_code = refl

  pub kind_number : (kind_means ks k).head.number ≡ k.number
  unfolding kind_means
  kind_number = refl

  -- the kind's children
  abbrev pub run : List Slot
  run = slots ks k.first k.count

  pub kind_kids : (kind_means ks k).kids ≡ map (λ s. ty_of s.type) run
  unfolding kind_means
  kind_kids = refl

  -- the names, by the row

  pub names_own : (row_of k.code).names ≡ OWN_NAME → (kind_means ks k).head.names ≡ name_in k.name.text k.name.start k.name.len ∷ []
  unfolding kind_means
  names_own e = rw e

  pub names_child : (row_of k.code).names ≡ CHILD_NAMES → (kind_means ks k).head.names ≡ map slot_name run
  unfolding kind_means
  names_child e = rw e

  pub names_parameters : (row_of k.code).names ≡ PARAMETER_NAMES → (kind_means ks k).head.names ≡ map slot_name (front run)
  unfolding kind_means
  names_parameters e = rw e

  pub names_none : (row_of k.code).names ≡ NO_NAMES → (kind_means ks k).head.names ≡ []
  unfolding kind_means
  names_none e = rw e

  pub names_count : length (kind_means ks k).head.names ≡ pick (eqb (row_of k.code).names OWN_NAME) 1 (named_of (row_of k.code).names k.count)
  unfolding kind_means
  names_count =
      let d : ℕ = (row_of k.code).names in
      count_by (eqb d OWN_NAME) (eqb d CHILD_NAMES) (eqb d PARAMETER_NAMES) (name_in k.name.text k.name.start k.name.len) ks k.first k.count

  -- a kind that may stand in a node, by the row

  pub fits_clean : (c : ℕ) → kind_fits ks c k ≡ true → names_clean (kind_cell ks k) ≡ true
  unfolding kind_fits
  fits_clean c h = and_right (leb (k.first + k.count) c) (names_clean (kind_cell ks k)) h

  module _ (c : ℕ) (room : k.first + k.count ≤ c) where
    pub kind_fits_lem : names_clean (kind_cell ks k) ≡ true → kind_fits ks c k ≡ true
    unfolding kind_fits
    kind_fits_lem h = and_both (leb (k.first + k.count) c) (names_clean (kind_cell ks k)) (le-leb (k.first + k.count) c room) h

    module _ (own : zeros (k.name.text ∷ k.name.start ∷ k.name.len ∷ []) ≡ true) where
      pub fits_none : (row_of k.code).names ≡ NO_NAMES → all slot_bare run ≡ true → kind_fits ks c k ≡ true
      fits_none e b = kind_fits_lem (rw (e, own, b))

-- the same kind with its children at another place, or in other words

abbrev pub moved_to : Kind → ℕ → Kind
moved_to k first = record {
  code = k.code;
  number = k.number;
  dual = k.dual;
  flex = k.flex;
  name = k.name;
  first = first;
  count = k.count;
}

module _ (ks ks' : List ℕ) (k : Kind) (first : ℕ) (same : (i : ℕ) → i < k.count → slot_at ks' (first + i) ≡ slot_at ks (k.first + i)) where
  run_moved : slots ks' first k.count ≡ slots ks k.first k.count
  run_moved = same_shift (slot_at ks') (slot_at ks) first k.first k.count same

  pub moved_means : kind_means ks' (moved_to k first) ≡ kind_means ks k
  unfolding kind_means
  moved_means = rw run_moved

  pub moved_fits : (c c' : ℕ) → first + k.count ≤ c' → kind_fits ks c k ≡ true → kind_fits ks' c' (moved_to k first) ≡ true
  moved_fits c c' room h = kind_fits_lem ks' (moved_to k first) c' room (rw run_moved (fits_clean ks k c h))
