-- Listed types and lent entries among some nodes: a test of each word, and of each place, is the test of the types there.
-- Assumes nothing.
use mathlib.Core.Path.{◌≡◌, refl, ap, sym, ◌∙◌}
use mathlib.Core.Bool.{Bool, ◌&&◌}
use mathlib.Core.List.{List, map}
use Prim.Native.Nat.{ℕ, zero, suc, ◌+◌}
use native.Mathlib.Omega.{arith}
use Rattle.std.specs.List.{list_all, range_with_len}
use Rattle.scope.specs.Base.{all, from}
use Rattle.scope.specs.Types.{ty_of}
use Rattle.scope.specs.Nodes.{Node}
use Rattle.scope.specs.Sound.{in_store, Slot}
use Rattle.layout.specs.Words.{slots, slot_at}
use Rattle.layout.proofs.Lists.{all_map, all_list, all_range}
use Rattle.store.specs.Entries.{types_in}

-- a test of the numbers from a on, each i more
pub all_shift : (p : ℕ → Bool) (i a n : ℕ) → all (λ j. p (i + j)) (from a n) ≡ all p (from (i + a) n)
all_shift p i a zero = refl
all_shift p i a (suc n) = let q : i + suc a ≡ suc (i + a) = omega arith in ap (λ (b : Bool). p (i + a) && b) (rw q at (all_shift p i (suc a) n))

module _ (ns : List Node) where
  pub all_types : (ts : List ℕ) → list_all (λ w. in_store ns (ty_of w)) ts ≡ all (in_store ns) (types_in ts)
  all_types ts = all_list _ ts ∙ sym (all_map (in_store ns) ty_of ts)

  -- n children from i on
  pub all_slots : (ks : List ℕ) (i n : ℕ) → list_all (λ j. in_store ns (ty_of (slot_at ks (i + j)).type)) (range_with_len 0 n) ≡ all (in_store ns) (map (λ (s : Slot). ty_of s.type) (slots ks i n))
  all_slots ks i n =
      all_range _ 0 n
      ∙ (all_shift (λ (j : ℕ). in_store ns (ty_of (slot_at ks j).type)) i 0 n
      ∙ (let z : i + 0 ≡ i = omega arith in rw z (sym (all_map (λ (s : Slot). in_store ns (ty_of s.type)) (slot_at ks) (from i n)))
      ∙ sym (all_map (in_store ns) (λ (s : Slot). ty_of s.type) (slots ks i n))))
