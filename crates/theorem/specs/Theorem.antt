-- Demand 3 about the compiled calls on lent memory. A list starts from the slices that `open` left (`Opened`); each step is a public call's own contract
-- (`Ran`), and starts from the words that the last one left (`Runs`). `held m` is the store that the words m hold, `lent m` what they are to a call, `env f`
-- what every call reads of chart and texts. Answers are the code's. Demand 3's own sentences stand without quotation marks; what these mark is 01's.
use Rattle.std.specs.Prelude.{◌≡◌, true, List, ◌↔◌, ℕ, ◌<◌, length}
use Rattle.scope.specs.Types.{Ty}
use Rattle.scope.specs.Nodes.{opened}
use Rattle.scope.specs.Answers.{Success, Failure}
use Rattle.scope.specs.Sound.{reads, rooted}
use Rattle.scope.specs.Trees.{Val, Proper, Fits, PairFits}
use Rattle.scope.specs.Demand.{unify, after, Each, in_first_half, SelfInverseNode, sizes, Contains}
use Rattle.scope.specs.Replies.{Reply, answer, replies}
use Rattle.theorem.specs.Memory.{Memory, Fixed, env, lent, held, Opened}
use Rattle.theorem.specs.Steps.{Ran}
use Rattle.theorem.specs.Runs.{Runs, ◌then◌, calls_of, replies_of, joined, EachStep, summed, asks, unify_answers, no_default, nodes_by}
use Rattle.theorem.specs.DeskRuns.{beside}
use Rattle.theorem.specs.CallContracts.{Contracts}
use Rattle.theorem.specs.StatesTheorem.{StatesHalf, StatesTheorem}
use Rattle.theorem.specs.Tested.{TestedForms, StaysTested}

-- the first half: "the makers, `import`, `force_kind`, `unify`", and the reads
pub record FirstHalf (f : Fixed) {m m' : Memory} (run : Runs f m m') : Type 0 where
  -- if every unify answered Success, finite trees fit the store that the words hold exactly when they fit every node as made and every pair unified
  pub success : EachStep (unify_answers (λ x. x ≡ Success)) run
      → (v : Val) → Proper (env f) v → Fits (env f) v (held m').nodes ↔ EachStep (asks (env f) v) run
  -- a first Failure (no Default made or imported before) means that all such trees that also fit this pair give a self-inverse tree to some
  -- node that had no kind just before
  pub failure : {m₁ m₂ : Memory} {a b : Ty} (before : Runs f m m₁) (call : Ran f m₁ (unify a b) (answer Failure) m₂) (later : Runs f m₂ m')
      → run ≡ joined before (call then later)
      → EachStep (unify_answers (λ x. x ≡ Failure → ⊥)) before
      → EachStep (no_default (env f)) before
      → (v : Val) → Proper (env f) v → EachStep (asks (env f) v) before → PairFits (env f) v a b
      → SelfInverseNode (env f) v (held m₁).nodes

-- the second half: "these and the next section's calls without `reset`", which is a call on store and names buffer (DeskSteps)
pub record SecondHalf (f : Fixed) {m m' : Memory} (run : Runs f m m') : Type 0 where
  -- a pair that once got Success gets it again: "if `unify` of them, as the next call, answers so"; the code has no other answer
  pub again : {m₁ m₂ m₃ : Memory} {a b : Ty} {r : Reply} (before : Runs f m m₁) (call : Ran f m₁ (unify a b) (answer Success) m₂) (later : Runs f m₂ m')
      → run ≡ joined before (call then later)
      → Ran f m' (unify a b) r m₃
      → r ≡ answer Success
  -- root sizes add up to the nodes made
  pub added : sizes (held m').nodes ≡ summed (nodes_by (env f)) run
  -- no type contains itself
  pub apart : (a : ℕ) → Contains (held m').nodes a a → ⊥
  -- no node is over twelve parent steps from its root
  pub twelve : (i : ℕ) → i < length (held m').nodes → rooted 12 (held m').nodes i ≡ true

-- of one list: "Each half is a single claim about the whole list, and not one for each call"
pub record ListHolds (f : Fixed) (n c : ℕ) {m m' : Memory} (run : Runs f m m') : Type 0 where
  -- the words read as the store that the definitions' list leaves
  pub words : lent m' ≡ reads (after (env f) (opened n c) (calls_of run))
  -- every code answer is the definitions' answer
  pub answers : replies_of run ≡ replies (env f) (opened n c) (calls_of run)
  pub first : Each in_first_half (calls_of run) → FirstHalf f run
  pub second : SecondHalf f run

pub record Theorem : Type 0 where
  -- what each public function was proved to do, on any numbers at all, is a step
  pub contracts : Contracts
  -- all that holds of every list of steps, with slices opened for n nodes and c children: "Each list starts from a store just opened, with no node"
  pub lists : (f : Fixed) (n c : ℕ) (m m' : Memory) → Opened n c m → (run : Runs f m m') → ListHolds f n c run
  -- with a names buffer beside the store, and the calls that name a state, return to it and drop it
  pub states : StatesTheorem
  -- whose second half is the one above on lists without these calls, whatever the buffer beside the store holds
  pub stood : (f : Fixed) (bs : List ℕ) (m m' : Memory) (run : Runs f m m') → StatesHalf f (beside bs run) ↔ SecondHalf f run
  -- what each form for a tested store was proved to do, on words that pass the tests, is what the call itself was proved to do
  pub forms : TestedForms
  -- and after any list the words pass them, if they did before
  pub stays : StaysTested
