-- A list of calls on a store and its names buffer, "written by the store's calls alone": each step starts from the words that the one before it left. What stands
-- behind the present state is read off the list: pairs and nodes from the calls and the code's answers, saved and restored by the calls on names that the code did
-- not refuse.
use Rattle.std.specs.Prelude.{List, [], ◌∷◌, ◌++◌, Bool, true, false, ℕ, ◌+◌}
use Rattle.std.proofs.Math.Option.{Option, none, some}
use Rattle.scope.specs.Chart.{Env}
use Rattle.scope.specs.Answers.{Answer}
use Rattle.scope.specs.Demand.{Call, make, import, force_kind, unify, read, later}
use Rattle.scope.specs.Replies.{Reply, number, type, types, answer, flag, forced, exported, a_node, a_child, a_name, a_store, marks, mod_is, text, nothing}
use Rattle.scope.specs.StatesDemand.{Naming, StateCall, call, naming, Pair, answered, Ledger, Ledgers, no_ledger, turned}
use Rattle.theorem.specs.Memory.{Memory, Fixed, env}
use Rattle.theorem.specs.Runs.{Runs, stop, ◌then◌, was_made, nodes_by}
use Rattle.theorem.specs.DeskSteps.{DeskMemory, desk_of, DeskRan, stood}

infixr 5 ◌next◌
-- from the words before the first call to those after the last
pub data DeskRuns (f : Fixed) : DeskMemory → DeskMemory → Type 0 where
  halt : {d : DeskMemory} → DeskRuns f d d
  ◌next◌ : {d d₁ d₂ : DeskMemory} {c : StateCall} {r : Reply} → DeskRan f d c r d₁ → DeskRuns f d₁ d₂ → DeskRuns f d d₂

-- its calls, and the code's answers, in order
unfoldable pub calls_in : {f : Fixed} {d d' : DeskMemory} → DeskRuns f d d' → List StateCall
calls_in halt = []
calls_in (◌next◌ {c} x xs) = c ∷ calls_in xs

unfoldable pub replies_in : {f : Fixed} {d d' : DeskMemory} → DeskRuns f d d' → List Reply
replies_in halt = []
replies_in (◌next◌ {r} x xs) = r ∷ replies_in xs

-- one list behind another
unfoldable pub linked : {f : Fixed} {d d₁ d₂ : DeskMemory} → DeskRuns f d d₁ → DeskRuns f d₁ d₂ → DeskRuns f d d₂
linked halt ys = ys
linked (x next xs) ys = x next linked xs ys

-- a list of the calls that stood, beside a names buffer
unfoldable pub beside : {f : Fixed} {m m' : Memory} (bs : List ℕ) → Runs f m m' → DeskRuns f (desk_of m bs) (desk_of m' bs)
beside bs stop = halt
beside bs (◌then◌ {m} x xs) = stood {d = desk_of m bs} x next beside bs xs

-- the answer to a unify that was made
abbrev pub answer_in : Reply → Option Answer
answer_in (answer x) = some x
answer_in (number n) = none
answer_in (type t) = none
answer_in (types ts) = none
answer_in (flag b) = none
answer_in (forced x) = none
answer_in (exported x) = none
answer_in (a_node n) = none
answer_in (a_child t) = none
answer_in (a_name n) = none
answer_in (a_store s) = none
answer_in (marks ms) = none
answer_in (mod_is d) = none
answer_in (text bs) = none
answer_in nothing = none

-- "A pair is the two types given to `unify`", with the code's answer; a refused call asked none
abbrev pub pairs_of : Call → Reply → List Pair
pairs_of (make k) r = []
pairs_of (import l ts ps h) r = []
pairs_of (force_kind t) r = []
pairs_of (unify a b) r = answered a b (answer_in r)
pairs_of (read q) r = []
pairs_of (later q) r = []

-- what a call that stood enters, on the words m with the code's answer r
abbrev pub enters : Env → Memory → Ledger → Call → Reply → Ledger
enters e m l c r = record { pairs = l.pairs ++ pairs_of c r; made = l.made + nodes_by e m c r }

-- refused calls leave it; naming saves it, returning restores it, dropping forgets it (StatesDemand)
abbrev pub turns : Bool → Ledgers → Naming → Ledgers
turns false g x = g
turns true g x = turned g x

abbrev pub ledgers_next : Env → Memory → Ledgers → StateCall → Reply → Ledgers
ledgers_next e m g (call c) r = record { present = enters e m g.present c r; saved = g.saved }
ledgers_next e m g (naming x) r = turns (was_made r) g x

unfoldable pub ledgers_from : {f : Fixed} {d d' : DeskMemory} → Ledgers → DeskRuns f d d' → Ledgers
ledgers_from g halt = g
ledgers_from {f} g (◌next◌ {d} {c} {r} x xs) = ledgers_from (ledgers_next (env f) d.store g c r) xs

-- "those behind the present state"
abbrev pub ledger : {f : Fixed} {d d' : DeskMemory} → DeskRuns f d d' → Ledger
ledger run = (ledgers_from no_ledger run).present
