-- Where nothing is lost, as scope's `Recall` has it: each pair of types of n nodes has an entry of its own, and the clock never comes to its end.
use Rattle.std.specs.Prelude.{◌≡◌, List, ℕ, ◌+◌, ◌≤◌, ◌<◌, length}
use Rattle.scope.specs.Limits.{MAX_NODES}
use Rattle.scope.specs.Types.{Ty}
use Rattle.scope.specs.Visits.{changes_of}
use Rattle.recall.specs.Memory.{LAST, words_for}
use Rattle.recall.specs.Places.{slot_of, entries}

pub record Own (m : List ℕ) (n : ℕ) : Type 0 where
  pub apart : (a b c d : Ty) → a.idx < n → b.idx < n → c.idx < n → d.idx < n → slot_of (entries m) n a b ≡ slot_of (entries m) n c d → (a ≡ c) × (b ≡ d)
  pub fits : (a b : Ty) → a.idx < n → b.idx < n → slot_of (entries m) n a b < entries m

-- in `words_for n` words and more
abbrev pub EachItsOwn : Type 0
EachItsOwn = (m : List ℕ) (n : ℕ) → words_for n ≤ length m → Own m n

-- the clock moves no further than scope's `Remembers` says
abbrev pub NeverLast : Type 0
NeverLast = (n : ℕ) → n ≤ MAX_NODES → changes_of n + 1 < LAST
