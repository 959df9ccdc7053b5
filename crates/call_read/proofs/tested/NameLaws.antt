-- The laws of a child and a name by their index: what lies there, and none past the end. A kind's own name is name 0; the others are its children's,
-- and by its row all of them have one, all but the last, or none.
-- Assumes nothing.
use mathlib.Core.Path.{◌≡◌, refl, ap, sym, ◌∙◌}
use mathlib.Core.List.{List, [], ◌∷◌, map}
use mathlib.Core.Option.{Option, none, some}
use Prim.Native.Nat.{ℕ, zero, suc, ◌+◌, ◌-◌, ◌≤◌, ◌<◌}
use native.Mathlib.Omega.{arith}
use lib.ListN.{length, get_or, get_elem?, length-map, get_or-map}
use borrow.Author.Tests.{ne_eqb}
use Rattle.scope.specs.Base.{front}
use Rattle.scope.specs.Names as scope
use Rattle.scope.specs.Types.{Ty, ty_of}
use Rattle.scope.specs.Kinds.{row_of, OWN_NAME, CHILD_NAMES, PARAMETER_NAMES}
use Rattle.scope.specs.Sound.{name_in, slot_name}
use Rattle.scope.specs.Sound as sound
use Rattle.scope.specs.Calls.{flat, child_at, child_name_at}
use Rattle.names.specs.declared.Name.{Name}
use Rattle.layout.specs.Words.{slot_at, slots}
use Rattle.layout.specs.Meaning.{Held, held_in, slot_means, kind_means, node_means}
use Rattle.layout.specs.declared.Kind.{Kind}
use Rattle.layout.specs.declared.TypeNode.{TypeNode}
use Rattle.layout.specs.declared.TypeNode.TheVariants.{Root, Child}
use Rattle.layout.specs.declared.TypeState.TheVariants.{Known, Unknown, InferenceFailed}
use Rattle.types.specs.declared.Inverted.{Inverted}
use Rattle.std.specs.declared.option.Option.TheVariants as held
use Rattle.layout.specs.declared.Slot.{Slot}
use Rattle.layout.proofs.ChildLaws.{length_slots, slots_get, length_kids, kid_at, front_slots}
use Rattle.layout.proofs.KindLaws.{names_own, names_child, names_parameters}

-- what lies at j

module _ {A : Type 0} where
  element_is : (l : List A) (j : ℕ) (d : A) → j < length l → get_elem? l j ≡ some (get_or l j d)
  element_is [] j d h = absurd (omega arith)
  element_is (x ∷ l) zero d h = refl
  element_is (x ∷ l) (suc j) d h = element_is l j d (omega arith)

  element_none : (l : List A) (j : ℕ) → length l ≤ j → get_elem? l j ≡ none
  element_none [] j h = refl
  element_none (x ∷ l) zero h = absurd (omega arith)
  element_none (x ∷ l) (suc j) h = element_none l j (omega arith)

-- a name as it lies in a store
abbrev name_or : Name → Option scope.Name
name_or n = name_in n.text n.start n.len

module _ (ks : List ℕ) (k : Kind) (j : ℕ) where
  pub kid_is : (s : Slot) → j < k.count → slot_means s ≡ slot_at ks (k.first + j) → get_elem? (kind_means ks k).kids j ≡ some (ty_of s.ty.0)
  kid_is s h e =
      element_is (kind_means ks k).kids j (ty_of (slot_at ks 0).type) (rw (length_kids ks k) h)
      ∙ ap some (kid_at ks k j (slot_at ks 0) h ∙ ap (λ (y : sound.Slot). ty_of y.type) (sym e))

  pub kid_past : k.count ≤ j → get_elem? (kind_means ks k).kids j ≡ none
  kid_past h = element_none (kind_means ks k).kids j (rw (length_kids ks k) h)

  -- the name of child j among the first n

  module _ (n : ℕ) where
    named_length : length (map slot_name (slots ks k.first n)) ≡ n
    named_length = length-map (slots ks k.first n) slot_name ∙ length_slots ks k.first n

    pub named_is : (s : Slot) {o : Option scope.Name} → j < n → slot_means s ≡ slot_at ks (k.first + j) → name_or s.name ≡ o
        → flat (get_elem? (map slot_name (slots ks k.first n)) j) ≡ o
    named_is s h e w =
        let l = slots ks k.first n in
        let x : get_or (map slot_name l) j (slot_name (slot_at ks 0)) ≡ slot_name (slot_means s) =
        get_or-map slot_name l j (slot_at ks 0) ∙ ap slot_name (slots_get ks k.first n j (slot_at ks 0) h ∙ sym e) in
        ap flat (element_is (map slot_name l) j (slot_name (slot_at ks 0)) (rw named_length h)) ∙ (x ∙ w)

    pub named_past : n ≤ j → flat (get_elem? (map slot_name (slots ks k.first n)) j) ≡ none
    named_past h = ap flat (element_none (map slot_name (slots ks k.first n)) j (rw named_length h))

  -- name j of a kind, where d is what names its row has

  abbrev name_of : List (Option scope.Name) → Option scope.Name
  name_of l = flat (get_elem? l j)

  module _ {o : Option scope.Name} {d : ℕ} (e : d ≡ (row_of k.code).names) where
    pub own_first : d ≡ OWN_NAME → j ≡ 0 → name_or k.name ≡ o → name_of (kind_means ks k).head.names ≡ o
    own_first q z w = ap name_of (names_own ks k (sym e ∙ q)) ∙ rw z w

    pub child_named : d ≡ CHILD_NAMES → name_of (map slot_name (slots ks k.first k.count)) ≡ o → name_of (kind_means ks k).head.names ≡ o
    child_named q w = ap name_of (names_child ks k (sym e ∙ q)) ∙ w

    pub parameter_named : d ≡ PARAMETER_NAMES → 0 < k.count → name_of (map slot_name (slots ks k.first (k.count - 1))) ≡ o
        → name_of (kind_means ks k).head.names ≡ o
    parameter_named q h w =
        let m : k.count ≡ suc (k.count - 1) = omega arith in
        let f : front (slots ks k.first k.count) ≡ slots ks k.first (k.count - 1) =
        ap (λ (n : ℕ). front (slots ks k.first n)) m ∙ front_slots ks k.first (k.count - 1) in
        ap name_of (names_parameters ks k (sym e ∙ q) ∙ ap (map slot_name) f) ∙ w

  module _ {d : ℕ} (e : d ≡ (row_of k.code).names) where
    pub own_later : d ≡ OWN_NAME → (j ≡ 0 → ⊥) → name_of (kind_means ks k).head.names ≡ none
    own_later q z =
        ap name_of (names_own ks k (sym e ∙ q)) ∙ ap flat (element_none (name_or k.name ∷ []) j (omega arith))

    pub parameter_none : d ≡ PARAMETER_NAMES → k.count ≤ 0 → name_of (kind_means ks k).head.names ≡ none
    parameter_none q h =
        let m : k.count ≡ 0 = omega arith in
        ap name_of (names_parameters ks k (sym e ∙ q) ∙ ap (λ (n : ℕ). map slot_name (front (slots ks k.first n))) m)

    pub nameless : (d ≡ OWN_NAME → ⊥) → (d ≡ CHILD_NAMES → ⊥) → (d ≡ PARAMETER_NAMES → ⊥) → name_of (kind_means ks k).head.names ≡ none
    unfolding kind_means
    nameless a b p = rw (← e, ne_eqb d OWN_NAME a, ne_eqb d CHILD_NAMES b, ne_eqb d PARAMETER_NAMES p)

-- what a node's kind says of j; a node without a kind says nothing

module _ (ks : List ℕ) (j : ℕ) where
  pub held_child : (v : TypeNode) {u : Held} {o : Option Ty} → u ≡ held_in v → (u ≡ held.None → none ≡ o)
      → ((i : Inverted) (k : Kind) → u ≡ held.Some (i, k) → get_elem? (kind_means ks k).kids j ≡ o) → child_at (node_means ks v) j ≡ o
  held_child (Root (Known i k) z) e n s = s i k e
  held_child (Root (Unknown p) z) e n s = n e
  held_child (Root InferenceFailed z) e n s = n e
  held_child (Child t) e n s = n e

  pub held_name : (v : TypeNode) {u : Held} {o : Option scope.Name} → u ≡ held_in v → (u ≡ held.None → none ≡ o)
      → ((i : Inverted) (k : Kind) → u ≡ held.Some (i, k) → flat (get_elem? (kind_means ks k).head.names j) ≡ o) → child_name_at (node_means ks v) j ≡ o
  held_name (Root (Known i k) z) e n s = s i k e
  held_name (Root (Unknown p) z) e n s = n e
  held_name (Root InferenceFailed z) e n s = n e
  held_name (Child t) e n s = n e
