-- A list of calls on memory: "Each call gets what the last one left and returned; nobody else writes it meanwhile, chart and texts stay as they are, and
-- every other argument is free". Each step starts from the words that the one before it left, be it refused or not. What is said of a list is said of the
-- code's answers and of the stores that the words hold before and after each call.
use Rattle.std.specs.Prelude.{◌≡◌, List, [], ◌∷◌, Bool, true, false, ℕ, ◌+◌, ◌≤◌, length}
use Rattle.scope.specs.Base.{any}
use Rattle.scope.specs.Chart.{Env}
use Rattle.scope.specs.Nodes.{at, state_of}
use Rattle.scope.specs.Answers.{Answer}
use Rattle.scope.specs.Calls.{store_of}
use Rattle.scope.specs.Import.{copies}
use Rattle.scope.specs.Trees.{Val, NodeFits, PairFits}
use Rattle.scope.specs.Demand.{Call, make, import, force_kind, unify, read, later, states_made, StatesFit, is_default, if_taken}
use Rattle.scope.specs.Replies.{Reply, number, type, types, answer, flag, forced, exported, a_node, a_child, a_name, a_store, marks, mod_is, text, nothing}
use Rattle.theorem.specs.Memory.{Memory, Fixed, held}
use Rattle.theorem.specs.Steps.{Ran}

infixr 5 ◌then◌
-- from the words before the first call to those after the last
pub data Runs (f : Fixed) : Memory → Memory → Type 0 where
  stop : {m : Memory} → Runs f m m
  ◌then◌ : {m m₁ m₂ : Memory} {c : Call} {r : Reply} → Ran f m c r m₁ → Runs f m₁ m₂ → Runs f m m₂

-- its calls, and the code's answers, in order
unfoldable pub calls_of : {f : Fixed} {m m' : Memory} → Runs f m m' → List Call
calls_of stop = []
calls_of (◌then◌ {c} x xs) = c ∷ calls_of xs

unfoldable pub replies_of : {f : Fixed} {m m' : Memory} → Runs f m m' → List Reply
replies_of stop = []
replies_of (◌then◌ {r} x xs) = r ∷ replies_of xs

-- one list behind another
unfoldable pub joined : {f : Fixed} {m m₁ m₂ : Memory} → Runs f m m₁ → Runs f m₁ m₂ → Runs f m m₂
joined stop ys = ys
joined (x then xs) ys = x then joined xs ys

-- something holds of each call, the words before it, the code's answer and the words after it
unfoldable pub EachStep : {f : Fixed} {m m' : Memory} → (Memory → Call → Reply → Memory → Type 0) → Runs f m m' → Type 0
EachStep P stop = Unit {0}
EachStep P (◌then◌ {m} {m₁} {c} {r} x xs) = P m c r m₁ × EachStep P xs

-- a number for each, added up
unfoldable pub summed : {f : Fixed} {m m' : Memory} → (Memory → Call → Reply → ℕ) → Runs f m m' → ℕ
summed g stop = 0
summed g (◌then◌ {m} {c} {r} x xs) = g m c r + summed g xs

-- was a call made? A refusal is a number alone
abbrev pub was_made : Reply → Bool
was_made (number n) = false
was_made (type t) = true
was_made (types ts) = true
was_made (answer a) = true
was_made (flag b) = true
was_made (forced x) = true
was_made (exported x) = true
was_made (a_node n) = true
was_made (a_child t) = true
was_made (a_name n) = true
was_made (a_store s) = true
was_made (marks ms) = true
was_made (mod_is d) = true
was_made (text bs) = true
was_made nothing = true

-- what a call asks of trees: every node as made, "on the state it was made in or its import left it in", and every pair unified
abbrev pub asks : Env → Val → Memory → Call → Reply → Memory → Type 0
asks e v m (make k) r m' = was_made r ≡ true → StatesFit e v (length (held m).nodes) (states_made e (held m) k)
asks e v m (import l ts ps h) r m' = (n : ℕ) → length (held m).nodes ≤ n → NodeFits e v n (at (held m').nodes n)
asks e v m (force_kind t) r m' = Unit {0}
asks e v m (unify a b) r m' = was_made r ≡ true → PairFits e v a b
asks e v m (read q) r m' = Unit {0}
asks e v m (later q) r m' = Unit {0}

-- the code's answer to a unify is one of these, or a refusal
abbrev pub unify_answers : (Answer → Type 0) → Memory → Call → Reply → Memory → Type 0
unify_answers P m (make k) r m' = Unit {0}
unify_answers P m (import l ts ps h) r m' = Unit {0}
unify_answers P m (force_kind t) r m' = Unit {0}
unify_answers P m (unify a b) r m' = (x : Answer) → r ≡ answer x → P x
unify_answers P m (read q) r m' = Unit {0}
unify_answers P m (later q) r m' = Unit {0}

-- no Default is made or imported
abbrev pub no_default : Env → Memory → Call → Reply → Memory → Type 0
no_default e m (make k) r m' = was_made r ≡ true → any is_default (states_made e (held m) k) ≡ false
no_default e m (import l ts ps h) r m' = (n : ℕ) → length (held m).nodes ≤ n → is_default (state_of (at (held m').nodes n)) ≡ false
no_default e m (force_kind t) r m' = Unit {0}
no_default e m (unify a b) r m' = Unit {0}
no_default e m (read q) r m' = Unit {0}
no_default e m (later q) r m' = Unit {0}

-- "one for each node that a maker makes, and one for each source root that `import` copies"
abbrev pub nodes_by : Env → Memory → Call → Reply → ℕ
nodes_by e m (make k) r = if_taken (was_made r) (length (states_made e (held m) k))
nodes_by e m (import l ts ps h) r = if_taken (was_made r) (copies (store_of l).nodes ps ts)
nodes_by e m (force_kind t) r = 0
nodes_by e m (unify a b) r = 0
nodes_by e m (read q) r = 0
nodes_by e m (later q) r = 0
