-- Where a pair's entry lies, and what is read there.
use Rattle.std.specs.Prelude.{◌≡◌, List, ℕ, ◌+◌, ◌-◌, ◌*◌, ◌/◌, ◌%◌, ◌<◌, length}
use Rattle.scope.specs.Base.{pick}
use Rattle.scope.specs.Types.{Ty}
use Rattle.types.specs.Answers.{number_of}
use Rattle.types.specs.declared.UnifyResult.{UnifyResult}
use Rattle.recall.specs.Memory.{HEAD, ENTRY, clock_of, Running, entry_at, Believed}
use Rattle.std.specs.declared.option.Option.TheVariants as places
use Rattle.std.specs.Prelude.{Some}
use Rattle.std.specs.declared.option.Option as option

-- where a pair's entry lies, and its answer, where it is believed
abbrev pub Place : Type 0
Place = option.Option ℕ

abbrev pub Recalled : Type 0
Recalled = option.Option UnifyResult

-- a number for each type of n nodes, below 2n
abbrev pub code_of : Ty → ℕ
code_of t = pick t.inv (2 * t.idx + 1) (2 * t.idx)

-- a pair's entry among so many
abbrev pub slot_of : ℕ → ℕ → Ty → Ty → ℕ
slot_of count n a b = (code_of a * (2 * n) + code_of b) % count

abbrev pub entries : List ℕ → ℕ
entries m = (length m - HEAD) / ENTRY

-- p is the first word of an entry that lies in m, and the clock runs
pub record Entry (m : List ℕ) (k p : ℕ) : Type 0 where
  pub is : p ≡ entry_at k
  pub fits : p + 3 < length m
  pub running : Running (clock_of m)

pub record Placed (m : List ℕ) (n : ℕ) (a b : Ty) (r : Place) : Type 0 where
  pub there : (p : ℕ) → r ≡ places.Some p → Entry m (slot_of (entries m) n a b) p

pub record Answered (x : ℕ) (r : Recalled) : Type 0 where
  pub number : (q : UnifyResult) → r ≡ Some q → x ≡ number_of q

-- what is told is believed
pub record Told (m : List ℕ) (a b : ℕ) (r : Recalled) : Type 0 where
  pub believed : (q : UnifyResult) → r ≡ Some q → Believed m a b q
