-- Named states on memory: "name the present state, at most eight names of 1 to 255 bytes in a lent buffer, and return to one". A desk's words are a store's and
-- those of its names buffer. A step is a call that stood, which neither reads nor writes the names buffer, or a call on both by its own contract on the words
-- before and after, with the code's answer.
use Rattle.std.specs.Prelude.{◌≡◌, List, true, ℕ, leb, length, Ok}
use Rattle.scope.specs.Refusals.{Outcome}
use Rattle.scope.specs.States.{Book, holds_none, open_names_call, name_state_call, return_to_call, drop_name_call, reset_names_call}
use Rattle.scope.specs.Demand.{Call}
use Rattle.scope.specs.Replies.{Reply, nothing}
use Rattle.scope.specs.StatesDemand.{StateCall, call, naming, Desk, desk}
use Rattle.scope.specs.StatesDemand as calls
use Rattle.promise.specs.Promise.{done_reply}
use Rattle.promise.specs.Promise as promise
use Rattle.book.specs.Words.{book_words, book_in, book_clean, lent_book_of}
use Rattle.call_states.specs.Promise.{NamesPromised, NamesOpened, TestedNames}
use Rattle.theorem.specs.Memory.{CodeAnswer, Memory, Fixed, env, lent, held, Opened}
use Rattle.theorem.specs.Steps.{replied, Ran}

-- the words of a store and of the names buffer beside it
pub record DeskMemory : Type 0 where
  pub store : Memory
  pub names : List ℕ

abbrev pub desk_of : Memory → List ℕ → DeskMemory
desk_of m bs = record { store = m; names = bs }

-- the words after a call that writes the store alone, and after one that writes the names buffer alone
abbrev pub store_now : DeskMemory → Memory → DeskMemory
store_now d m = desk_of m d.names

abbrev pub names_now : DeskMemory → List ℕ → DeskMemory
names_now d bs = desk_of d.store bs

-- the store and the book that the words hold
abbrev pub held_desk : DeskMemory → Desk
held_desk d = desk (held d.store) (book_in d.names)

-- chart, texts, store and names buffer pass the tests of 2 and 8
abbrev pub TestedDesk : Fixed → DeskMemory → Type 0
TestedDesk f d = TestedNames (env f) d.store.head d.store.nodes d.store.kids d.names

-- a call on store and names buffer: its outcome o on the words d is the reply, and it leaves the words d'
abbrev pub DidNames : Outcome Book → promise.Reply (Unit {0}) → DeskMemory → DeskMemory → Type 0
DidNames o r d d' =
    NamesPromised o r d.store.head d.store.nodes d.store.kids d.names d'.store.head d'.store.nodes d'.store.kids d'.names

-- the words are what `open_names` left, whatever they were, when it answered `Ok`
pub record OpenedNames (n c : ℕ) (bs : List ℕ) : Type 0 where
  pub found : List ℕ
  pub left : NamesOpened (open_names_call n c (leb (book_words n c) (length found))) (done_reply (Ok tt)) found bs

-- "a names buffer that holds no name at first"
pub record NoName (bs : List ℕ) : Type 0 where
  pub clean : book_clean bs ≡ true
  pub none : holds_none (book_in bs) ≡ true

-- a store just opened, and such a buffer beside it
pub record OpenedDesk (n c : ℕ) (d : DeskMemory) : Type 0 where
  pub store : Opened n c d.store
  pub names : NoName d.names

pub data DeskRan (f : Fixed) : DeskMemory → StateCall → Reply → DeskMemory → Type 0 where
  -- a call that stood leaves the names buffer as it is
  stood : {d : DeskMemory} {m : Memory} {c : Call} {r : Reply} → Ran f d.store c r m → DeskRan f d (call c) r (store_now d m)
  name_state : {d : DeskMemory} {bs : List ℕ} (n : List ℕ) (r : CodeAnswer (Unit {0}))
      → DidNames (name_state_call (env f) (lent d.store) (lent_book_of d.names) n) (done_reply r) d (names_now d bs)
      → DeskRan f d (naming (calls.name n)) (replied (λ u. nothing) (done_reply r)) (names_now d bs)
  return_to : {d : DeskMemory} {m : Memory} (n : List ℕ) (r : CodeAnswer (Unit {0}))
      → DidNames (return_to_call (env f) (lent d.store) (lent_book_of d.names) n) (done_reply r) d (store_now d m)
      → DeskRan f d (naming (calls.return_to n)) (replied (λ u. nothing) (done_reply r)) (store_now d m)
  drop_name : {d : DeskMemory} {bs : List ℕ} (n : List ℕ) (r : CodeAnswer (Unit {0}))
      → DidNames (drop_name_call (env f) (lent d.store) (lent_book_of d.names) n) (done_reply r) d (names_now d bs)
      → DeskRan f d (naming (calls.drop n)) (replied (λ u. nothing) (done_reply r)) (names_now d bs)
  reset : {d d' : DeskMemory} (r : CodeAnswer (Unit {0}))
      → DidNames (reset_names_call (env f) (lent d.store) (lent_book_of d.names)) (done_reply r) d d'
      → DeskRan f d (naming calls.reset) (replied (λ u. nothing) (done_reply r)) d'
