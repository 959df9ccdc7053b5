-- The parts of `clean` that the code tests one by one. They add nothing to it: proofs/Laws.antt has layout's `clean` as these parts.
use Rattle.std.specs.Prelude.{List, [], ◌∷◌, Bool, true, false, ◌&&◌, ℕ, ◌+◌, ◌-◌, eqb, leb}
use Rattle.scope.specs.Base.{pick, all, is_some}
use Rattle.scope.specs.Sound.{Slot, zeros, name_clean, node_in}
use Rattle.names.specs.Place.{name_from}
use Rattle.names.specs.declared.Name.{Name}
use Rattle.layout.specs.Words.{slots, long_enough, unused_zero}
use Rattle.layout.specs.Meaning.{CHILD_TAG, UNKNOWN_TAG, FAILED_TAG, cell_means}
use Rattle.layout.specs.declared.Cell.{Cell}

-- what of `clean` is of no one node
abbrev pub room_clean : List ℕ → List ℕ → List ℕ → Bool
room_clean h ws ks = long_enough h ws ks && unused_zero h ws ks

-- a name's three words: a name or none where there may be one; where there is none they are zeros
abbrev pub name_clean_if : Bool → Name → Bool
name_clean_if may n = pick may (name_clean n.text n.start n.len) (zeros (n.text ∷ n.start ∷ n.len ∷ []))

abbrev pub slot_clean_if : Bool → Slot → Bool
slot_clean_if may s = name_clean_if may (name_from s.text s.start s.len)

-- the children a to e
abbrev pub slots_clean_if : Bool → List ℕ → ℕ → ℕ → Bool
slots_clean_if may ks a e = all (slot_clean_if may) (slots ks a (e - a))

-- a node that is not Known: its tag is one of the other three, and what of link and size its tag does not use is zero
abbrev pub plain_clean : Cell → Bool
plain_clean x =
    pick (eqb x.tag CHILD_TAG) (eqb x.size 0)
    (pick (eqb x.tag UNKNOWN_TAG) true (pick (eqb x.tag FAILED_TAG) (eqb x.link 0) false))

-- `node_clean` of a Known node's words
abbrev pub known_clean : List ℕ → ℕ → Cell → Bool
known_clean ks c x = leb (x.link + x.count) c && is_some (node_in (cell_means ks x))
