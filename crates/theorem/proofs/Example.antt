-- 01's "vars 0, 1, 2: unify 0, 1 then 1, 2: 0 and 2 are children of 1, size 3", word by word: the contracts are met on these words, so lists of steps from
-- slices that `open` left are there, and the theorem speaks of this one. By computing.
-- Assumes nothing.
use mathlib.Core.Path.{◌≡◌, refl}
use mathlib.Core.List.{List, [], ◌∷◌, ◌++◌}
use mathlib.Core.Bool.{true, false}
use Prim.Native.Nat.{ℕ}
use lib.ListN.{replicate}
use Rattle.scope.specs.Limits.{SIGILS, NONE}
use Rattle.scope.specs.Names as Names
use Rattle.scope.specs.Chart as Chart
use Rattle.scope.specs.Types as Types
use Rattle.scope.specs.Types.{Ty, ty, ty_of}
use Rattle.scope.specs.Nodes as Nodes
use Rattle.scope.specs.Nodes.{Root, Child, Unknown}
use Rattle.scope.specs.Answers.{Answer, Success}
use Rattle.scope.specs.Unify as Unify
use Rattle.scope.specs.Make as Make
use Rattle.scope.specs.Sound as Sound
use Rattle.scope.specs.Calls.{Outcome, done, open_call, new_var_call, unify_call}
use Rattle.types.specs.declared.«Type».{«Type»}
use Rattle.types.specs.declared.UnifyResult.TheVariants as result
use Rattle.chart.specs.Words.{runs}
use Rattle.names.specs.Place.{no_name}
use Rattle.layout.specs.Words.{clean, cell_at, node_at, node_clean, decode, store_in, long_enough, unused_zero, nodes_clean, lent_of}
use Rattle.store.specs.Holds.{Beyond}
use Rattle.refusals.specs.Opening.{enough}
use Rattle.sound.specs.Tests.{env_in}
use Rattle.promise.specs.Promise.{value}
use Rattle.std.specs.Prelude.{Ok}
use Rattle.promise.proofs.Laws.{promised_done}
use Rattle.theorem.specs.Memory.{Memory, memory_of, Fixed, env, lent, held, roomy, Did, Opened}
use Rattle.theorem.specs.Steps as ran
use Rattle.theorem.specs.Runs.{Runs, stop, ◌then◌}
use Rattle.theorem.specs.Theorem.{ListHolds}
use Rattle.theorem.proofs.Theorem.{theorem}

-- no definition, no fn trait, four empty sigils, no text
abbrev fixed : Fixed
fixed = record { chart = []; beside = record { fn_trait = NONE; sigils = replicate SIGILS no_name }; rule = []; text = [] }

-- room for three nodes, of which n are made, and their words
abbrev three : ℕ → List ℕ → Memory
three n ws = memory_of (n ∷ 0 ∷ 3 ∷ 0 ∷ NONE ∷ NONE ∷ 0 ∷ 0 ∷ []) ws []

-- a node's twelve words: a place not yet used, a type without a kind of that span and size, a child of that parent
abbrev blank : List ℕ
blank = replicate 12 0

abbrev unknown : ℕ → ℕ → List ℕ
unknown span size = 1 ∷ span ∷ size ∷ replicate 9 0

abbrev child : ℕ → List ℕ
child parent = 0 ∷ parent ∷ replicate 10 0

-- a call that is answered
module _ {A : Type 0} (o : Outcome A) (a : A) (m m' : Memory) where
  answers : o ≡ done a (held m') → clean m'.head m'.nodes m'.kids ≡ true
      → Beyond (held m').node_room (held m').child_room m.head m.nodes m.kids m'.head m'.nodes m'.kids → Did o (value a) m m'
  answers q k b = promised_done q (record { holds = record { clean = k; is = refl }; beyond = b })

-- a type's number as the code takes it
abbrev t : ℕ → «Type»
t w = record { 0 = w }

-- the words that each call finds, and those at the end
abbrev m₀ : Memory
m₀ = three 0 (blank ++ (blank ++ blank))

abbrev m₁ : Memory
m₁ = three 1 (unknown 5 1 ++ (blank ++ blank))

abbrev m₂ : Memory
m₂ = three 2 (unknown 5 1 ++ (unknown 6 1 ++ blank))

abbrev m₃ : Memory
m₃ = three 3 (unknown 5 1 ++ (unknown 6 1 ++ unknown 7 1))

abbrev m₄ : Memory
m₄ = three 3 (child 1 ++ (unknown 6 2 ++ unknown 7 1))

abbrev m₅ : Memory
m₅ = three 3 (child 1 ++ (unknown 6 3 ++ child 1))

-- what `open` finds, whatever it is
abbrev found : Memory
found = memory_of (replicate 8 9) (replicate 36 9) []

-- the two calls' outcomes on words
abbrev var : Memory → ℕ → Outcome Ty
var m span = new_var_call (env fixed) (lent m) span

abbrev pair : Memory → ℕ → ℕ → Outcome Answer
pair m a b = unify_call (env fixed) (lent m) (ty_of a) (ty_of b)

-- the contracts of `open`, of the three makers and of the two unifies on these words
met :
    Did (open_call 3 0 (roomy 3 0 found)) (value tt) found m₀
    × Did (var m₀ 5) (value (ty_of 0)) m₀ m₁
    × Did (var m₁ 6) (value (ty_of 1)) m₁ m₂
    × Did (var m₂ 7) (value (ty_of 2)) m₂ m₃
    × Did (pair m₃ 0 1) (value Success) m₃ m₄
    × Did (pair m₄ 1 2) (value Success) m₄ m₅
unfolding cell_at node_at node_clean decode store_in long_enough unused_zero nodes_clean clean lent_of enough env_in runs open_call new_var_call unify_call Sound.node_in
    Sound.rooted Sound.falls Sound.tree_size Sound.kind_sound Sound.room_sound Sound.shape_sound Sound.sound_store Chart.record_ok Chart.chart_ok Names.in_text
    Names.name_ok Names.bytes Types.ty_of Nodes.climb Nodes.find Nodes.compress Nodes.find_mut Make.new_var Unify.occurs Unify.self_inverse_at Unify.merge
    Unify.bind Unify.settle Unify.meet Unify.unify_f Unify.unify
met = (
  answers (open_call 3 0 (roomy 3 0 found)) tt found m₀ refl refl (record { head = refl; nodes = refl; kids = refl }),
  answers (var m₀ 5) (ty_of 0) m₀ m₁ refl refl (record { head = refl; nodes = refl; kids = refl }),
  answers (var m₁ 6) (ty_of 1) m₁ m₂ refl refl (record { head = refl; nodes = refl; kids = refl }),
  answers (var m₂ 7) (ty_of 2) m₂ m₃ refl refl (record { head = refl; nodes = refl; kids = refl }),
  answers (pair m₃ 0 1) Success m₃ m₄ refl refl (record { head = refl; nodes = refl; kids = refl }),
  answers (pair m₄ 1 2) Success m₄ m₅ refl refl (record { head = refl; nodes = refl; kids = refl }),
)

pub opened : Opened 3 0 m₀
opened = record { found = found; left = met.0 }

pub run : Runs fixed m₀ m₅
run =
    ran.new_var {m = m₀} {h = m₁.head} {ws = m₁.nodes} 5 (Ok (t 0)) met.1
    then ran.new_var {m = m₁} {h = m₂.head} {ws = m₂.nodes} 6 (Ok (t 1)) met.2
    then ran.new_var {m = m₂} {h = m₃.head} {ws = m₃.nodes} 7 (Ok (t 2)) met.3
    then ran.unify {m = m₃} {ws = m₄.nodes} (t 0) (t 1) (Ok result.Success) met.4
    then ran.unify {m = m₄} {ws = m₅.nodes} (t 1) (t 2) (Ok result.Success) met.5
    then stop

pub nodes_left : (held m₅).nodes ≡ Child (ty false 1) ∷ Root (Unknown 6) 3 ∷ Child (ty false 1) ∷ []
unfolding cell_at node_at decode store_in Sound.node_in Types.ty_of
nodes_left = refl

pub holds : ListHolds fixed 3 0 run
holds = theorem.lists fixed 3 0 m₀ m₅ opened run
