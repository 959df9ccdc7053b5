-- The steps of copying a root, in words: it is begun, its children are moved one by one, and it takes its kind.
use Rattle.std.specs.Prelude.{◌≡◌, List, ℕ, ◌+◌, set}
use Rattle.scope.specs.Sound as sound
use Rattle.types.specs.declared.«Type».{«Type»}
use Rattle.layout.specs.Words.{nodes_made, slot_at}
use Rattle.layout.specs.Meaning.{put_at, put_slot, slot_means}
use Rattle.layout.specs.declared.Slot.{Slot}
use Rattle.layout.specs.Meaning.{Held}
use Rattle.std.specs.Prelude.{Some, None}
use Rattle.layout.specs.declared.TypeState.TheVariants.{Known}
use Rattle.layout.specs.declared.TypeNode.TheVariants.{Root}
use Rattle.layout.proofs.KindLaws.{moved_to}
use Rattle.make.specs.Made.{BlankMade}

pub record Begun (table h ws ks : List ℕ) (i span count : ℕ) (table' h' ws' : List ℕ) (t : «Type») : Type 0 where
  pub blank : BlankMade h ws ks h' ws' span count t
  pub noted : table' ≡ set table i (nodes_made h + 1)

-- a child's numbers, with another type
abbrev pub retyped : sound.Slot → ℕ → sound.Slot
retyped s w = record { type = w; text = s.text; start = s.start; len = s.len }

pub record ChildMoved (sk : List ℕ) (from : ℕ) (ks : List ℕ) (first j t : ℕ) (ks' : List ℕ) : Type 0 where
  pub slot : Slot
  pub means : slot_means slot ≡ retyped (slot_at sk (from + j)) t
  pub put : ks' ≡ put_slot ks (first + j) slot

-- node i of n takes the kind that the source holds, with its children from `first` on
abbrev pub ended : List ℕ → ℕ → ℕ → ℕ → Held → List ℕ
ended ws n i first (Some (inv, k)) = put_at ws n i (Root (Known inv (moved_to k first)) 1)
ended ws n i first None = ws
