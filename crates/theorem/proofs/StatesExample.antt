-- A state named, left and returned to, word by word: the contracts are met on these words, so lists of steps with a names buffer are there, and the theorem speaks of
-- this one. The present state is named `a` before any node is made, a variable is made, and the return leaves no node, and no node behind it. By computing.
-- Assumes nothing.
use mathlib.Core.Path.{◌≡◌, refl}
use mathlib.Core.List.{List, [], ◌∷◌, ◌++◌}
use mathlib.Core.Bool.{true}
use Prim.Native.Nat.{ℕ, ◌-◌, ◌*◌}
use lib.ListN.{replicate}
use Rattle.scope.specs.Text.{text}
use Rattle.scope.specs.Limits.{MAX_STATES, MAX_STATE_NAME, SIGILS, NONE}
use Rattle.scope.specs.Names as Names
use Rattle.scope.specs.Chart as Chart
use Rattle.scope.specs.Types as Types
use Rattle.scope.specs.Types.{Ty, ty_of}
use Rattle.scope.specs.Nodes as Nodes
use Rattle.scope.specs.Make as Make
use Rattle.scope.specs.Sound as Sound
use Rattle.scope.specs.Calls.{Outcome, done, open_call, new_var_call}
use Rattle.scope.specs.States as States
use Rattle.scope.specs.States.{Book, open_names_call, name_state_call, return_to_call}
use Rattle.scope.proofs.TestLaws.{tf}
use Rattle.chart.specs.Words.{runs}
use Rattle.names.specs.Place.{no_name}
use Rattle.layout.specs.Words.{clean, cell_at, node_at, node_clean, decode, store_in, long_enough, unused_zero, nodes_clean, lent_of}
use Rattle.store.specs.Holds.{Became}
use Rattle.refusals.specs.Opening.{enough}
use Rattle.sound.specs.Tests.{env_in}
use Rattle.book.specs.Words as Words
use Rattle.book.specs.Words.{book_in, book_clean, lent_book_of, BookBecame}
use Rattle.promise.specs.Promise.{value}
use Rattle.std.specs.Prelude.{Ok}
use Rattle.promise.proofs.Laws.{promised_done}
use Rattle.call_states.specs.Promise.{NamesOpened}
use Rattle.theorem.specs.Memory.{Memory, memory_of, Fixed, env, lent, held, roomy, Did}
use Rattle.theorem.specs.Steps as ran
use Rattle.theorem.specs.DeskSteps.{DeskMemory, desk_of, DidNames, OpenedNames, OpenedDesk, stood, name_state, return_to}
use Rattle.theorem.specs.DeskRuns.{DeskRuns, halt, ◌next◌, ledgers_from, ledger}
use Rattle.theorem.specs.StatesTheorem.{DeskHolds}
use Rattle.theorem.proofs.StatesTheorem.{states_theorem}

-- no definition, no fn trait, four empty sigils, no text
abbrev fixed : Fixed
fixed = record { chart = []; beside = record { fn_trait = NONE; sigils = replicate SIGILS no_name }; rule = []; text = [] }

-- room for one node, of which n are made, and its words
abbrev one : ℕ → List ℕ → Memory
one n ws = memory_of (n ∷ 0 ∷ 1 ∷ 0 ∷ NONE ∷ NONE ∷ 0 ∷ 0 ∷ []) ws []

abbrev m₀ : Memory
m₀ = one 0 (replicate 12 0)

abbrev m₁ : Memory
m₁ = one 1 (1 ∷ 5 ∷ 1 ∷ replicate 9 0)

-- a place's words: free, and `a` with a store that has no node
abbrev free_place : List ℕ
free_place = replicate (Words.place_words 1 0) 0

abbrev held_place : List ℕ
held_place = 1 ∷ 97 ∷ replicate (MAX_STATE_NAME - 1) 0 ++ (0 ∷ 0 ∷ 0 ∷ 0 ∷ NONE ∷ NONE ∷ 0 ∷ 0 ∷ replicate 12 0)

-- a names buffer for one node and no child, the words of its first place, and seven free places
abbrev buffer : List ℕ → List ℕ
buffer ps = 1 ∷ 0 ∷ ps ++ replicate ((MAX_STATES - 1) * Words.place_words 1 0) 0

abbrev b₀ : List ℕ
b₀ = buffer free_place

abbrev b₁ : List ℕ
b₁ = buffer held_place

abbrev a : List ℕ
a = text "a"

-- what `open` and `open_names` find, whatever it is
abbrev found : Memory
found = memory_of (replicate 8 9) (replicate 12 9) []

abbrev found_names : List ℕ
found_names = replicate (Words.book_words 1 0) 0

abbrev var : Outcome Ty
var = new_var_call (env fixed) (lent m₀) 5

abbrev saves : Outcome Book
saves = name_state_call (env fixed) (lent m₀) (lent_book_of b₀) a

abbrev returns : Outcome Book
returns = return_to_call (env fixed) (lent m₁) (lent_book_of b₁) a

-- a call on the store that is answered, and one on store and names buffer
module _ {A : Type 0} (o : Outcome A) (x : A) (m m' : Memory) where
  answers : o ≡ done x (held m') → Became m.head m.nodes m.kids m'.head m'.nodes m'.kids (held m') → Did o (value x) m m'
  answers q b = promised_done q b

module _ (o : Outcome Book) (d d' : DeskMemory) where
  answers_names : o ≡ done (book_in d'.names) (held d'.store)
      → Became d.store.head d.store.nodes d.store.kids d'.store.head d'.store.nodes d'.store.kids (held d'.store)
      → BookBecame d.names d'.names (book_in d'.names) → DidNames o (value tt) d d'
  answers_names q b k = record { outcome = q; again = λ p. b; book = λ p. k; kept = λ p. tf p; kept_book = λ p. tf p }

-- the contracts of `open`, `open_names`, `name_state`, `new_var` and `return_to` on these words
met :
    Did (open_call 1 0 (roomy 1 0 found)) (value tt) found m₀
    × NamesOpened (open_names_call 1 0 true) (value tt) found_names b₀
    × DidNames saves (value tt) (desk_of m₀ b₀) (desk_of m₀ b₁)
    × Did var (value (ty_of 0)) m₀ m₁
    × DidNames returns (value tt) (desk_of m₁ b₁) (desk_of m₀ b₁)
unfolding cell_at node_at node_clean decode store_in long_enough unused_zero nodes_clean clean lent_of enough env_in runs open_call new_var_call Sound.node_in Sound.rooted
    Sound.falls Sound.tree_size Sound.kind_sound Sound.room_sound Sound.shape_sound Sound.sound_store Chart.record_ok Chart.chart_ok Names.in_text Names.name_ok
    Names.bytes Names.eq_bytes Types.ty_of Nodes.climb Nodes.find Make.new_var Words.place_in Words.name_words_clean Words.held_clean Words.place_clean book_in book_clean lent_book_of
    States.place_where States.book_sound open_names_call name_state_call return_to_call
met = (
  answers (open_call 1 0 (roomy 1 0 found)) tt found m₀ refl
      (record { holds = record { clean = refl; is = refl }; beyond = record { head = refl; nodes = refl; kids = refl } }),
  record { outcome = refl; book = λ p. record { clean = refl; is = refl; beyond = refl }; kept = λ p. tf p },
  answers_names saves (desk_of m₀ b₀) (desk_of m₀ b₁) refl
      (record { holds = record { clean = refl; is = refl }; beyond = record { head = refl; nodes = refl; kids = refl } })
      (record { clean = refl; is = refl; beyond = refl }),
  answers var (ty_of 0) m₀ m₁ refl (record { holds = record { clean = refl; is = refl }; beyond = record { head = refl; nodes = refl; kids = refl } }),
  answers_names returns (desk_of m₁ b₁) (desk_of m₀ b₁) refl
      (record { holds = record { clean = refl; is = refl }; beyond = record { head = refl; nodes = refl; kids = refl } })
      (record { clean = refl; is = refl; beyond = refl }),
)

pub opened_names : OpenedNames 1 0 b₀
opened_names = record { found = found_names; left = met.1 }

pub opened : OpenedDesk 1 0 (desk_of m₀ b₀)
opened = record { store = record { found = found; left = met.0 }; names = states_theorem.opened 1 0 b₀ opened_names }

pub run : DeskRuns fixed (desk_of m₀ b₀) (desk_of m₀ b₁)
run =
    name_state {d = desk_of m₀ b₀} {bs = b₁} a (Ok tt) met.2
    next stood {d = desk_of m₀ b₁} {m = m₁} (ran.new_var {m = m₀} {h = m₁.head} {ws = m₁.nodes} 5 (Ok (record { 0 = 0 })) met.3)
    next return_to {d = desk_of m₁ b₁} {m = m₀} a (Ok tt) met.4
    next halt

-- no node stands behind the state that the return leaves, though the code made one
pub made_none : (ledger run).made ≡ 0
unfolding ledgers_from run Names.eq_bytes
made_none = refl

pub holds : DeskHolds fixed 1 0 run
holds = states_theorem.lists fixed 1 0 (desk_of m₀ b₀) (desk_of m₀ b₁) opened run
