-- Demand 3's second half with named states, about the compiled calls on lent memory. A list starts from the slices that `open` left and a names buffer that holds
-- no name; each step is a public call's own contract (`DeskRan`) and starts from the words that the last one left (`DeskRuns`). Answers are the code's, and so is
-- the ledger: "The pairs asked and nodes made are then those behind the present state: the ones behind the named state when it was named, and the ones since the
-- return." What stands in quotation marks is 01's and 02's.
use Rattle.std.specs.Prelude.{◌≡◌, true, ℕ, ◌<◌, length}
use mathlib.Core.List.{List, Memᴰ}
use Rattle.scope.specs.Base.{all}
use Rattle.scope.specs.Types.{Ty}
use Rattle.scope.specs.Nodes.{opened}
use Rattle.scope.specs.Answers.{Success}
use Rattle.scope.specs.Sound.{reads, rooted}
use Rattle.scope.specs.States.{reads_book, keep_reports}
use Rattle.scope.specs.Demand.{unify, sizes, Contains}
use Rattle.scope.specs.Replies.{Reply, answer, nothing}
use Rattle.scope.specs.StatesDemand.{call, naming, name, return_to, Desk, desk, after_desk, state_replies, pair, Ledgers, in_states_half, leaves}
use Rattle.book.specs.Words.{book_in, lent_book_of}
use Rattle.theorem.specs.Memory.{Fixed, env, lent, held}
use Rattle.theorem.specs.DeskSteps.{DeskMemory, OpenedNames, NoName, OpenedDesk, DeskRan}
use Rattle.theorem.specs.DeskRuns.{DeskRuns, halt, ◌next◌, calls_in, replies_in, linked, ledgers_from, ledger}

-- the second half: "Each later call on the store joins the second half as it lands", "without `reset`"
pub record StatesHalf (f : Fixed) {d d' : DeskMemory} (run : DeskRuns f d d') : Type 0 where
  -- a pair behind the present state that got Success gets it again: "if `unify` of them, as the next call, answers so"; the code has no other answer
  pub again : {d₁ : DeskMemory} {a b : Ty} {r : Reply} → Memᴰ (pair a b Success) (ledger run).pairs
      → DeskRan f d' (call (unify a b)) r d₁
      → r ≡ answer Success
  -- root sizes add up to the nodes made behind it
  pub added : sizes (held d'.store).nodes ≡ (ledger run).made
  -- no type contains itself
  pub apart : (a : ℕ) → Contains (held d'.store).nodes a a → ⊥
  -- no node is over twelve parent steps from its root
  pub twelve : (i : ℕ) → i < length (held d'.store).nodes → rooted 12 (held d'.store).nodes i ≡ true

-- what the definitions' list starts from, and what it leaves
abbrev pub start : ℕ → ℕ → DeskMemory → Desk
start n c d = desk (opened n c) (book_in d.names)

abbrev pub final : (f : Fixed) (n c : ℕ) {d d' : DeskMemory} → DeskRuns f d d' → Desk
final f n c {d} run = after_desk (env f) (start n c d) (calls_in run)

-- of one list
pub record DeskHolds (f : Fixed) (n c : ℕ) {d d' : DeskMemory} (run : DeskRuns f d d') : Type 0 where
  -- the words read as the store and the book that the definitions' list leaves
  pub words : lent d'.store ≡ reads (final f n c run).store
  pub names : lent_book_of d'.names ≡ reads_book (final f n c run).book
  -- every code answer is the definitions' answer
  pub answers : replies_in run ≡ state_replies (env f) (start n c d) (calls_in run)
  pub second : all in_states_half (calls_in run) ≡ true → StatesHalf f run

-- of a state that is named n, calls that leave the name, and a return to it, none of both refused, from any words and with any ledger
pub record Restored {f : Fixed} {n : List ℕ} {d d₁ d₂ d₃ : DeskMemory} (g : Ledgers) (save : DeskRan f d (naming (name n)) nothing d₁)
    (between : DeskRuns f d₁ d₂) (back : DeskRan f d₂ (naming (return_to n)) nothing d₃) : Type 0 where
  -- "Returning restores every node, the remembered error and nil types and every capacity figure; the report count does not go back"
  pub store : held d₃.store ≡ keep_reports (held d₂.store) (held d.store)
  -- "the ones behind the named state when it was named"
  pub ledger : (ledgers_from g (save next linked between (back next halt))).present ≡ g.present

pub record StatesTheorem : Type 0 where
  -- what `open_names` left holds no name
  pub opened : (n c : ℕ) (bs : List ℕ) → OpenedNames n c bs → NoName bs
  -- all that holds of every list of steps: "Demand 3 supposes a names buffer that holds no name at first and is written by the store's calls alone"
  pub lists : (f : Fixed) (n c : ℕ) (d d' : DeskMemory) → OpenedDesk n c d → (run : DeskRuns f d d') → DeskHolds f n c run
  -- and of every return to a name
  pub returns : (f : Fixed) (n : List ℕ) (g : Ledgers) (d d₁ d₂ d₃ : DeskMemory) (save : DeskRan f d (naming (name n)) nothing d₁) (between : DeskRuns f d₁ d₂)
      (back : DeskRan f d₂ (naming (return_to n)) nothing d₃) → all (leaves n) (calls_in between) ≡ true → Restored g save between back
