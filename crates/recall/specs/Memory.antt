-- What a memory's words say: which pairs are believed to have which answer, and what noting, visiting and forgetting do to that and to the marks. A word past the end
-- is 0.
use Rattle.std.specs.Prelude.{◌≡◌, List, ◌⊎◌, ℕ, ◌+◌, ◌*◌, ◌≤◌, ◌<◌, get_or}
use Rattle.marks.specs.Marks as marks
use Rattle.marks.specs.Marks.{Knows}
use Rattle.types.specs.Answers.{number_of}
use Rattle.types.specs.declared.UnifyResult.{UnifyResult}

-- the words before the entries, and the words of an entry
abbrev pub HEAD : ℕ
HEAD = marks.HEAD

abbrev pub ENTRY : ℕ
ENTRY = 4

abbrev pub LAST : ℕ
LAST = 4294967295

abbrev pub clock_of : List ℕ → ℕ
clock_of m = get_or m 0 0

-- a clock that has started and has not reached its end
pub record Running (c : ℕ) : Type 0 where
  pub started : c ≡ 0 → ⊥
  pub short : c ≡ LAST → ⊥

-- the first word of an entry
abbrev pub entry_at : ℕ → ℕ
entry_at k = HEAD + ENTRY * k

-- some entry of the present clock says that the pair in the words a and b has the answer q
pub record Believed (m : List ℕ) (a b : ℕ) (q : UnifyResult) : Type 0 where
  pub place : ℕ
  pub running : Running (clock_of m)
  pub first : get_or m (entry_at place) 0 ≡ a
  pub second : get_or m (entry_at place + 1) 0 ≡ b
  pub when : get_or m (entry_at place + 2) 0 ≡ clock_of m
  pub answer : get_or m (entry_at place + 3) 0 ≡ number_of q

-- no entry was noted after now
pub record Tidy (m : List ℕ) : Type 0 where
  pub past : Running (clock_of m) → (k : ℕ) → get_or m (entry_at k + 2) 0 ≤ clock_of m

-- the entries' words are 0, and the others are as they were
pub record Cleared (m m' : List ℕ) : Type 0 where
  pub zero : (i : ℕ) → HEAD ≤ i → get_or m' i 0 ≡ 0
  pub head : (i : ℕ) → i < HEAD → get_or m' i 0 ≡ get_or m i 0

-- nothing is believed
pub record Begun (m : List ℕ) : Type 0 where
  pub tidy : Tidy m
  pub none : (a b : ℕ) (q : UnifyResult) → Believed m a b q → ⊥
  pub unmarked : (i : ℕ) → Knows m i → ⊥

-- m' after m: nothing is believed that was not
pub record Fewer (m m' : List ℕ) : Type 0 where
  pub tidy : Tidy m'
  pub on : clock_of m ≤ clock_of m'
  pub still : (a b : ℕ) (q : UnifyResult) → Believed m' a b q → Believed m a b q
  pub marks : (i : ℕ) → Knows m' i → Knows m i

-- m' after m: no entry is believed, and a running clock has moved
pub record Forgot (m m' : List ℕ) : Type 0 where
  pub tidy : Tidy m'
  pub on : clock_of m ≤ clock_of m'
  pub none : (a b : ℕ) (q : UnifyResult) → Believed m' a b q → ⊥
  pub moved : Running (clock_of m') → clock_of m' ≡ clock_of m → ⊥
  pub marks : (i : ℕ) → Knows m' i → Knows m i

-- what was noted: a pair and its answer, at the clock of its visit's beginning
pub record New (m : List ℕ) (began a b : ℕ) (r : UnifyResult) (a' b' : ℕ) (q : UnifyResult) : Type 0 where
  pub running : Running (clock_of m)
  pub now : clock_of m ≡ began
  pub first : a' ≡ a
  pub second : b' ≡ b
  pub answer : q ≡ r

-- m' after m: what is believed was believed, or was noted
pub record Noted (m m' : List ℕ) (began a b : ℕ) (r : UnifyResult) : Type 0 where
  pub tidy : Tidy m'
  pub on : clock_of m' ≡ clock_of m
  pub only : (a' b' : ℕ) (q : UnifyResult) → Believed m' a' b' q → Believed m a' b' q ⊎ New m began a b r a' b' q
  pub marks : (i : ℕ) → Knows m' i → Knows m i

-- m' after m: what is believed was believed, or is that the pair in the words a and b has the answer r
pub record WalkNoted (m m' : List ℕ) (a b : ℕ) (r : UnifyResult) : Type 0 where
  pub tidy : Tidy m'
  pub on : clock_of m ≤ clock_of m'
  pub only : (a' b' : ℕ) (q : UnifyResult) → Believed m' a' b' q → Believed m a' b' q ⊎ ((a' ≡ a) × ((b' ≡ b) × (q ≡ r)))
  pub marks : (i : ℕ) → Knows m' i → Knows m i

-- an entry for each pair of types of n nodes
abbrev pub words_for : ℕ → ℕ
words_for n = HEAD + ENTRY * (2 * n * (2 * n))
