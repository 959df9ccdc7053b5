-- A state held at a place and put back from one: what the core asks of words that passed the tests, and what it leaves.
use Rattle.std.specs.Prelude.{◌≡◌, true, false, List, ℕ, ◌<◌, length, get_or, set}
use Rattle.std.proofs.Math.Option.{none, some}
use Rattle.scope.specs.Limits.{MAX_STATES}
use Rattle.scope.specs.Nodes.{Store}
use Rattle.scope.specs.States.{Place, Book, with_places, held_store, is_free, name_length, same_room}
use Rattle.layout.specs.Words.{store_in}
use Rattle.layout.specs.Words as words
use Rattle.book.specs.Words.{book_in, book_clean, place_in, place_clean, place_words}

-- the store s held under the name n
abbrev pub holding : List ℕ → Store → Place
holding n s = some (record { name = n; store = s })

-- the book with another content of place i; the store of place i
abbrev pub with_place : Book → ℕ → Place → Book
with_place b i p = with_places b (set b.places i p)

abbrev pub store_at : Book → ℕ → Store
store_at b i = held_store (get_or b.places i none)

-- store and names buffer are clean and have the same capacities, and i is a place
pub record AtPlace (h ws ks bs : List ℕ) (i : ℕ) : Type 0 where
  pub clean : words.clean h ws ks ≡ true
  pub book : book_clean bs ≡ true
  pub room : same_room (store_in h ws ks) (book_in bs) ≡ true
  pub inside : i < MAX_STATES

-- it can be given this name
pub record NameReady (h ws ks bs : List ℕ) (i : ℕ) (name : List ℕ) : Type 0 where
  pub at : AtPlace h ws ks bs i
  pub fits : name_length name ≡ true

-- it is held
pub record ReturnReady (h ws ks bs : List ℕ) (i : ℕ) : Type 0 where
  pub at : AtPlace h ws ks bs i
  pub held : is_free (get_or (book_in bs).places i none) ≡ false

-- the words of one place for n nodes and c children, which are the store's capacities
pub record HoldReady (h ws ks ps : List ℕ) (n c : ℕ) (name : List ℕ) : Type 0 where
  pub clean : words.clean h ws ks ≡ true
  pub nodes : (store_in h ws ks).node_room ≡ n
  pub children : (store_in h ws ks).child_room ≡ c
  pub words : length ps ≡ place_words n c
  pub fits : name_length name ≡ true

-- they hold the state s under the name
pub record HeldPlace (ps : List ℕ) (n c : ℕ) (name : List ℕ) (s : Store) : Type 0 where
  pub words : length ps ≡ place_words n c
  pub clean : place_clean n c ps ≡ true
  pub is : place_in n c ps ≡ holding name s
