-- A kind whose children are the same but for their types: its head is the same, and it may stand in a node where the other may. A head has names of
-- the children, and the test of unused numbers looks at these; neither looks at a child's type. Assumes nothing.
use mathlib.Core.Path.{◌≡◌, refl, ap, sym, ◌∙◌}
use mathlib.Core.Bool.{Bool, true}
use mathlib.Core.List.{List, [], ◌∷◌, map, map-map}
use Prim.Native.Nat.{ℕ, ◌+◌, ◌≤◌, ◌<◌}
use Rattle.scope.specs.Base.{all, from}
use Rattle.scope.specs.Sound.{Slot, slot_name, slot_clean, slot_bare, front, last}
use Rattle.layout.specs.Words.{slot_at, slots}
use Rattle.layout.specs.Meaning.{kind_means, kind_fits}
use Rattle.layout.specs.declared.Kind.{Kind}
use Rattle.layout.proofs.Lists.{same_shift}
use Rattle.layout.proofs.KindLaws.{moved_to, fits_clean, kind_fits_lem, kind_kids}
use Rattle.needs.proofs.RootLaws.{kids_in}
use Rattle.copy_parts.specs.Steps.{retyped}

-- a child's numbers without its type
abbrev pub untyped : Slot → Slot
untyped s = retyped s 0

all_by : (p : Slot → Bool) → ((s : Slot) → p (untyped s) ≡ p s) → (xs : List Slot) → all p (map untyped xs) ≡ all p xs
all_by p e [] = refl
all_by p e (x ∷ xs) = rw (e x, all_by p e xs)

front_map : (xs : List Slot) → front (map untyped xs) ≡ map untyped (front xs)
front_map [] = refl
front_map (x ∷ []) = refl
front_map (x ∷ y ∷ ys) = ap (λ (l : List Slot). untyped x ∷ l) (front_map (y ∷ ys))

last_map : (xs : List Slot) → last (map untyped xs) ≡ map untyped (last xs)
last_map [] = refl
last_map (x ∷ []) = refl
last_map (x ∷ y ∷ ys) = last_map (y ∷ ys)

module _ (xs ys : List Slot) (q : map untyped xs ≡ map untyped ys) where
  names_same : map slot_name xs ≡ map slot_name ys
  names_same = sym (map-map slot_name untyped xs) ∙ (ap (map slot_name) q ∙ map-map slot_name untyped ys)

  all_same : (p : Slot → Bool) → ((s : Slot) → p (untyped s) ≡ p s) → all p xs ≡ all p ys
  all_same p e = sym (all_by p e xs) ∙ (ap (all p) q ∙ all_by p e ys)

  fronts_same : map untyped (front xs) ≡ map untyped (front ys)
  fronts_same = sym (front_map xs) ∙ (ap front q ∙ front_map ys)

  lasts_same : map untyped (last xs) ≡ map untyped (last ys)
  lasts_same = sym (last_map xs) ∙ (ap last q ∙ last_map ys)

module _ (ks ks' : List ℕ) (k : Kind) (first : ℕ) (same : (i : ℕ) → i < k.count → untyped (slot_at ks' (first + i)) ≡ untyped (slot_at ks (k.first + i))) where
  abbrev xs : List Slot
  xs = slots ks' first k.count

  abbrev ys : List Slot
  ys = slots ks k.first k.count

  runs_same : map untyped xs ≡ map untyped ys
  runs_same =
      map-map untyped (slot_at ks') (from first k.count)
      ∙ (same_shift (λ j. untyped (slot_at ks' j)) (λ j. untyped (slot_at ks j)) first k.first k.count same
      ∙ sym (map-map untyped (slot_at ks) (from k.first k.count)))

  moved_head : (kind_means ks' (moved_to k first)).head ≡ (kind_means ks k).head
  unfolding kind_means
  moved_head = rw (names_same xs ys runs_same, names_same (front xs) (front ys) (fronts_same xs ys runs_same))

  pub moved_kind : kind_means ks' (moved_to k first) ≡ record { head = (kind_means ks k).head; kids = kids_in ks' first k.count }
  moved_kind = λ i. record { head = moved_head i; kids = kind_kids ks' (moved_to k first) i }

  pub moved_fits : (c c' : ℕ) → first + k.count ≤ c' → kind_fits ks c k ≡ true → kind_fits ks' c' (moved_to k first) ≡ true
  moved_fits c c' room h =
      kind_fits_lem ks' (moved_to k first) c' room
      (rw (
        all_same xs ys runs_same slot_bare (λ s. refl),
        all_same xs ys runs_same slot_clean (λ s. refl),
        all_same (front xs) (front ys) (fronts_same xs ys runs_same) slot_clean (λ s. refl),
        all_same (last xs) (last ys) (lasts_same xs ys runs_same) slot_bare (λ s. refl),
      ) (fits_clean ks k c h))
