-- What a memory's words say of marks: which nodes have one, and what marking does to that. A word past the end is 0.
use Rattle.std.specs.Prelude.{◌≡◌, Bool, true, List, ◌⊎◌, ℕ, ◌+◌, ◌/◌, ◌%◌, ◌^◌, ◌≤◌, ◌<◌, get_or}
use Rattle.scope.specs.Limits.{MAX_NODES}

-- the bits of a word
abbrev pub BITS : ℕ
BITS = 32

-- where it is said whether there are marks, where they begin, and where they end
abbrev pub MARKED : ℕ
MARKED = 2

abbrev pub MARKS : ℕ
MARKS = 3

abbrev pub HEAD : ℕ
HEAD = MARKS + MAX_NODES / BITS

-- the bit of a node in its word
abbrev pub bit_of : ℕ → ℕ → ℕ
bit_of w i = w / 2 ^ (i % BITS) % 2

-- there are marks, and the node i has one
pub record Knows (m : List ℕ) (i : ℕ) : Type 0 where
  pub inside : i < MAX_NODES
  pub some : get_or m MARKED 0 ≡ 1
  pub mark : bit_of (get_or m (MARKS + i / BITS) 0) i ≡ 1

pub record Said (m : List ℕ) (i : ℕ) (r : Bool) : Type 0 where
  pub known : r ≡ true → Knows m i

-- the words that are no marks are as they were
pub record Beside (m m' : List ℕ) : Type 0 where
  pub before : (j : ℕ) → j < MARKED → get_or m' j 0 ≡ get_or m j 0
  pub after : (j : ℕ) → HEAD ≤ j → get_or m' j 0 ≡ get_or m j 0

-- m' after m: no mark is new
pub record Opened (m m' : List ℕ) : Type 0 where
  pub beside : Beside m m'
  pub marks : (i : ℕ) → Knows m' i → Knows m i

-- m' after m: no mark is new but that of the node i
pub record Marked (m m' : List ℕ) (i : ℕ) : Type 0 where
  pub beside : Beside m m'
  pub marks : (j : ℕ) → Knows m' j → (j ≡ i) ⊎ Knows m j

-- what a byte says of a node that has a mark, beside a walk that writes 1
abbrev pub OLD : ℕ
OLD = 2

-- f' after f: no byte changed but those of marked nodes, which are OLD
pub record Tells (m f f' : List ℕ) : Type 0 where
  pub each : (i : ℕ) → (get_or f' i 0 ≡ get_or f i 0) ⊎ ((get_or f' i 0 ≡ OLD) × Knows m i)

-- m' after m: no mark is new but those of nodes whose byte is 1
pub record MarkedNew (m m' f : List ℕ) : Type 0 where
  pub beside : Beside m m'
  pub marks : (j : ℕ) → Knows m' j → (get_or f j 0 ≡ 1) ⊎ Knows m j
