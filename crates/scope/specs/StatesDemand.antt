-- Demand 3's second half with named states. "The pairs asked and nodes made are then those behind the present state: the ones behind the named state when it
-- was named, and the ones since the return." They stand in a ledger that the statement keeps beside store and book: what goes into it comes from the calls
-- and their answers, and it is saved under a name's bytes, whatever the book does with its places. The first half's lists don't change.
use Rattle.std.specs.Prelude.{◌≡◌, Bool, true, false, not, ◌↔◌, ℕ, ◌+◌, ◌≤◌, ◌<◌, length}
use mathlib.Core.List.{List, [], ◌∷◌, ◌++◌, map, Memᴰ}
use Rattle.std.proofs.Math.Option.{Option, none, some}
use Rattle.scope.specs.Base.{pick, is_some, or_else, all}
use Rattle.scope.specs.Limits.{MAX_NODES, MAX_CHILDREN}
use Rattle.scope.specs.Names.{eq_bytes}
use Rattle.scope.specs.Chart.{Env}
use Rattle.scope.specs.Types.{Ty}
use Rattle.scope.specs.Nodes.{Store, opened}
use Rattle.scope.specs.Answers.{Answer, Success}
use Rattle.scope.specs.Sound.{Lent, reads, rooted}
use Rattle.scope.specs.Calls.{Outcome, refused, done, unify_call}
use Rattle.scope.specs.States.{Book, LentBook, reads_book, holds_none, name_state_call, keep_reports, return_to_call, drop_name_call, reset_names_call}
use Rattle.scope.specs.Demand.{Call, make, import, force_kind, unify, read, later, given, next, made_by, sizes, Contains, SecondHalf}
use Rattle.scope.specs.Replies.{Reply, nothing, reply, reply_of}

-- a call on a store and its names buffer
pub data Naming : Type 0 where
  name : List ℕ → Naming
  return_to : List ℕ → Naming
  drop : List ℕ → Naming
  reset : Naming

-- a call that stood, or one of these
pub data StateCall : Type 0 where
  call : Call → StateCall
  naming : Naming → StateCall

abbrev pub naming_call : Env → Lent → LentBook → Naming → Outcome Book
naming_call e l k (name n) = name_state_call e l k n
naming_call e l k (return_to n) = return_to_call e l k n
naming_call e l k (drop n) = drop_name_call e l k n
naming_call e l k reset = reset_names_call e l k

-- what the calls are lent: a store, and the book that the names buffer says
pub record Desk : Type 0 where
  pub store : Store
  pub book : Book

abbrev pub desk : Store → Book → Desk
desk s b = record { store = s; book = b }

abbrev pub outcome_on : Env → Desk → Naming → Outcome Book
outcome_on e d x = naming_call e (reads d.store) (reads_book d.book) x

-- "Each call gets what the last one left"; a refused one leaves all as found, and a call that stood leaves the book
abbrev pub left : Desk → Outcome Book → Desk
left d (refused n) = d
left d (done b s) = desk s b

abbrev pub next_desk : Env → Desk → StateCall → Desk
next_desk e d (call c) = desk (next e d.store c) d.book
next_desk e d (naming x) = left d (outcome_on e d x)

unfoldable pub after_desk : Env → Desk → List StateCall → Desk
after_desk e d [] = d
after_desk e d (c ∷ cs) = after_desk e (next_desk e d c) cs

-- each call's answer, and those of a list in order
abbrev pub state_reply : Env → Desk → StateCall → Reply
state_reply e d (call c) = reply_of e d.store c
state_reply e d (naming x) = reply (λ b. nothing) (outcome_on e d x)

unfoldable pub state_replies : Env → Desk → List StateCall → List Reply
state_replies e d [] = []
state_replies e d (c ∷ cs) = state_reply e d c ∷ state_replies e (next_desk e d c) cs

-- "A pair is the two types given to `unify`", with its answer
pub record Pair : Type 0 where
  pub a : Ty
  pub b : Ty
  pub answer : Answer

abbrev pub pair : Ty → Ty → Answer → Pair
pair a b r = record { a = a; b = b; answer = r }

-- the pair that a call asked; a refused call asked none
abbrev pub answered : Ty → Ty → Option Answer → List Pair
answered a b none = []
answered a b (some r) = pair a b r ∷ []

abbrev pub pairs_by : Env → Store → Call → List Pair
pairs_by e s (make m) = []
pairs_by e s (import l ts ps h) = []
pairs_by e s (force_kind t) = []
pairs_by e s (unify a b) = answered a b (given (unify_call e (reads s) a b))
pairs_by e s (read r) = []
pairs_by e s (later c) = []

-- what stands behind a state: the pairs asked with their answers, in order, and the nodes made
pub record Ledger : Type 0 where
  pub pairs : List Pair
  pub made : ℕ

abbrev pub entered : Env → Store → Ledger → Call → Ledger
entered e s l c = record { pairs = l.pairs ++ pairs_by e s c; made = l.made + made_by e s c }

-- the present state's ledger, and those saved under names, the newest first
pub record Ledgers : Type 0 where
  pub present : Ledger
  pub saved : List (List ℕ × Ledger)

abbrev pub no_ledger : Ledgers
no_ledger = record { present = record { pairs = []; made = 0 }; saved = [] }

abbrev pub saved_under : List ℕ → List (List ℕ × Ledger) → Option Ledger
saved_under n [] = none
saved_under n (x ∷ xs) = pick (eq_bytes x.0 n) (some x.1) (saved_under n xs)

abbrev pub forgotten : List ℕ → List (List ℕ × Ledger) → List (List ℕ × Ledger)
forgotten n [] = []
forgotten n (x ∷ xs) = pick (eq_bytes x.0 n) (forgotten n xs) (x ∷ forgotten n xs)

-- naming saves the ledger, returning restores it, dropping forgets it
abbrev pub turned : Ledgers → Naming → Ledgers
turned g (name n) = record { present = g.present; saved = (n, g.present) ∷ g.saved }
turned g (return_to n) = record { present = or_else (saved_under n g.saved) g.present; saved = g.saved }
turned g (drop n) = record { present = g.present; saved = forgotten n g.saved }
turned g reset = no_ledger

-- refused calls leave it
abbrev pub turned_by : Ledgers → Naming → Outcome Book → Ledgers
turned_by g x (refused n) = g
turned_by g x (done b s) = turned g x

abbrev pub next_ledgers : Env → Desk → Ledgers → StateCall → Ledgers
next_ledgers e d g (call c) = record { present = entered e d.store g.present c; saved = g.saved }
next_ledgers e d g (naming x) = turned_by g x (outcome_on e d x)

unfoldable pub after_ledgers : Env → Desk → Ledgers → List StateCall → Ledgers
after_ledgers e d g [] = g
after_ledgers e d g (c ∷ cs) = after_ledgers e (next_desk e d c) (next_ledgers e d g c) cs

-- "Each later call on the store joins the second half as it lands"; "these and the next section's calls without `reset`"
abbrev pub in_states_half : StateCall → Bool
in_states_half (call c) = true
in_states_half (naming (name n)) = true
in_states_half (naming (return_to n)) = true
in_states_half (naming (drop n)) = true
in_states_half (naming reset) = false

-- the second half, of one list from a store and a book, with the ledger of the state that it leaves
pub record StatesHalf (e : Env) (s : Store) (b : Book) (cs : List StateCall) : Type 0 where
  -- a pair behind the present state that got Success gets it again: "if `unify` of them, as the next call, answers so"
  pub again : (x y : Ty)
      → Memᴰ (pair x y Success) (after_ledgers e (desk s b) no_ledger cs).present.pairs
      → given (unify_call e (reads (after_desk e (desk s b) cs).store) x y) ≡ some Success
  -- root sizes add up to the nodes made behind it
  pub added : sizes (after_desk e (desk s b) cs).store.nodes ≡ (after_ledgers e (desk s b) no_ledger cs).present.made
  -- no type contains itself
  pub apart : (a : ℕ) → Contains (after_desk e (desk s b) cs).store.nodes a a → ⊥
  -- no node is over twelve parent steps from its root
  pub twelve : (i : ℕ) → i < length (after_desk e (desk s b) cs).store.nodes → rooted 12 (after_desk e (desk s b) cs).store.nodes i ≡ true

-- "Demand 3 supposes a names buffer that holds no name at first and is written by the store's calls alone"
abbrev pub StatesHalfHolds : Type 0
StatesHalfHolds =
    (e : Env) (n c : ℕ) → n ≤ MAX_NODES → c ≤ MAX_CHILDREN → (b : Book) → holds_none b ≡ true
    → (cs : List StateCall) → all in_states_half cs ≡ true → StatesHalf e (opened n c) b cs

-- the ledger is no more than that: on lists without these calls, this is the claim that stood
abbrev pub StatesHalfStood : Type 0
StatesHalfStood = (e : Env) (s : Store) (b : Book) (cs : List Call) → StatesHalf e s b (map call cs) ↔ SecondHalf e s cs

-- a call that leaves what is held under n: it names and drops nothing under n, and is no reset
abbrev pub leaves : List ℕ → StateCall → Bool
leaves n (call c) = true
leaves n (naming (name m)) = not (eq_bytes m n)
leaves n (naming (return_to m)) = true
leaves n (naming (drop m)) = not (eq_bytes m n)
leaves n (naming reset) = false

-- "the ones behind the named state when it was named": from any desk, its state is named as n, calls follow that leave the name, then comes a return, and
-- naming and return are not refused. Then store and ledger are those that were named, but for the report count
abbrev pub up_to_return : List ℕ → List StateCall → List StateCall
up_to_return n cs = naming (name n) ∷ cs

abbrev pub through_return : List ℕ → List StateCall → List StateCall
through_return n cs = up_to_return n cs ++ (naming (return_to n) ∷ [])

pub record AsNamed (e : Env) (d : Desk) (g : Ledgers) (n : List ℕ) (cs : List StateCall) : Type 0 where
  pub store : (after_desk e d (through_return n cs)).store ≡ keep_reports (after_desk e d (up_to_return n cs)).store d.store
  pub ledger : (after_ledgers e d g (through_return n cs)).present ≡ g.present

abbrev pub ReturnsAsNamed : Type 0
ReturnsAsNamed =
    (e : Env) (d : Desk) (g : Ledgers) (n : List ℕ) (cs : List StateCall) → all (leaves n) cs ≡ true
    → is_some (given (outcome_on e d (name n))) ≡ true
    → is_some (given (outcome_on e (after_desk e d (up_to_return n cs)) (return_to n))) ≡ true
    → AsNamed e d g n cs
