-- A table of skips has a byte for each child slot: over so many slots, from it on, a walk passes. A table of nodes has a byte for each: nonzero says that it has
-- been told.
use Rattle.std.specs.Prelude.{◌≡◌, Bool, true, not, List, ℕ, ◌+◌, ◌≤◌, ◌<◌, eqb, get_or}
use Rattle.scope.specs.Types.{ty_of}
use Rattle.layout.specs.Words.{slot_at}

-- more slots than a kind's words can say
abbrev pub SLOTS : ℕ
SLOTS = 8589934592

-- what a byte is less than
abbrev pub BYTES : ℕ
BYTES = 256

-- whether a table of bytes has one at i
abbrev pub marked : List ℕ → ℕ → Bool
marked ms i = not (eqb (get_or ms i 0) 0)

-- whether the node of the child in slot x has been told
abbrev pub slot_seen : List ℕ → List ℕ → ℕ → Bool
slot_seen ks seen x = marked seen (ty_of (slot_at ks x).type).idx

-- of each slot that is passed over p holds
pub record Skips (p : ℕ → Bool) (skip : List ℕ) : Type 0 where
  pub each : (s x : ℕ) → s ≤ x → x < s + get_or skip s 0 → p x ≡ true

-- r slots from s on are passed over, and what holds of all that skip passes over holds of all that skip' does
pub record Passed (skip skip' : List ℕ) (s r : ℕ) : Type 0 where
  pub over : (p : ℕ → Bool) → Skips p skip → (x : ℕ) → s ≤ x → x < s + r → p x ≡ true
  pub skips : (p : ℕ → Bool) → Skips p skip → Skips p skip'
  pub below : r < BYTES + BYTES

-- the nodes of the children from s up to r have been told
pub record Scanned (ks seen : List ℕ) (s end r : ℕ) : Type 0 where
  pub from : s ≤ r
  pub below : r ≤ end
  pub over : (x : ℕ) → s ≤ x → x < r → slot_seen ks seen x ≡ true

-- skip' passes over what skip does, and over slots from s up to t
pub record Filled (skip skip' : List ℕ) (s t : ℕ) : Type 0 where
  pub skips : (p : ℕ → Bool) → Skips p skip → ((x : ℕ) → s ≤ x → x < t → p x ≡ true) → Skips p skip'

-- the same from the slot after s on; skip' passes over what skip does, and over slots whose children's nodes have been told
pub record Stretched (ks seen skip skip' : List ℕ) (s end r : ℕ) : Type 0 where
  pub scanned : Scanned ks seen (s + 1) end r
  pub skips : (p : ℕ → Bool) → Skips p skip → ((x : ℕ) → slot_seen ks seen x ≡ true → p x ≡ true) → Skips p skip'
