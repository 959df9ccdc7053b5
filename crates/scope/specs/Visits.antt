-- How many visits a unify makes that remembers, as a bound that can be read off and as a type, to be inhabited. Between two changes of the nodes each pair of types is
-- worked through at most once, and a change costs again what is open then; a pair that is worked through visits one pair for each child.
use Rattle.std.specs.Prelude.{◌≡◌, List, Bool, true, ◌&&◌, ℕ, ◌+◌, ◌*◌, ◌≤◌, length}
use Rattle.scope.specs.Base.{all}
use Rattle.scope.specs.Limits.{MAX_WIDTH}
use Rattle.scope.specs.Chart.{Env}
use Rattle.scope.specs.Types.{Ty}
use Rattle.scope.specs.Nodes.{Node, Store}
use Rattle.scope.specs.Unify.{Out, Plan, unify, carry}
use Rattle.scope.specs.Sound.{in_store, sound_store}
use Rattle.scope.specs.Recall.{Result, recall, recall_carry}

-- the pairs of types of n nodes: a type is a node with an inversion or without
abbrev pub pairs_of : ℕ → ℕ
pairs_of n = 2 * n * (2 * n)

-- the changes of n nodes: n merges, each of which leaves a root less, and for each at most n paths that are shortened
abbrev pub changes_of : ℕ → ℕ
changes_of n = n * (n + 1)

-- k pairs are asked for, of n nodes, and the first w visits are only counted. For each change: every pair anew, and the n at most that are open in one another
abbrev pub most_visits : ℕ → ℕ → ℕ → ℕ
most_visits w k n = w + k + MAX_WIDTH * ((pairs_of n + n) * (changes_of n + 2))

-- r remembers, where o does not: the same nodes and the same answer, so many visits at most, and a clock that moves no further than nodes change, which is never the
-- end of a clock of 32 bits
pub record Remembers (w k n : ℕ) (o : Out) (r : Result) : Type 0 where
  pub same : r.out ≡ o
  pub visits : r.memory.visits ≤ most_visits w k n
  pub clock : r.memory.clock ≤ changes_of n + 1

abbrev pub pair_in : List Node → Ty × Ty → Bool
pair_in ns p = in_store ns p.0 && in_store ns p.1

-- on every sound store: two types of it, and whatever a plan asks of its types
abbrev pub FewVisits : Type 0
FewVisits = (e : Env) (s : Store) → sound_store e s ≡ true → (w : ℕ)
    → ((p q : Ty) → pair_in s.nodes (p, q) ≡ true → Remembers w 1 (length s.nodes) (unify e.texts s.nodes p q) (recall w e.texts s.nodes p q))
    × ((l : Plan) → all (pair_in s.nodes) l.pairs ≡ true
    → Remembers w (length l.pairs) (length s.nodes) (carry e.texts s.nodes l) (recall_carry w e.texts s.nodes l))
