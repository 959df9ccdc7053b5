-- Places made free: one, or all of them.
use Rattle.std.specs.Prelude.{◌≡◌, true, List, ℕ, ◌<◌, length, drop, set}
use Rattle.scope.specs.Limits.{MAX_STATES}
use Rattle.scope.specs.Force.{reset}
use Rattle.scope.specs.States.{blank}
use Rattle.layout.specs.Words.{store_in}
use Rattle.layout.specs.Words as words
use Rattle.store.specs.Holds.{Became}
use Rattle.book.specs.Words.{book_words, place_at, name_length_in, node_room_in, child_room_in, book_in, book_clean, BookBecame}
use Rattle.book.specs.Places.{put_place}

-- the words with place i free
abbrev pub freed_at : List ℕ → ℕ → ℕ → ℕ → List ℕ
freed_at bs n c i = put_place bs n c i (set (place_at bs n c i) 0 0)

-- the first m places are free; the capacities and the words past the book are as they were
pub record FreeTo (bs bs' : List ℕ) (n c m : ℕ) : Type 0 where
  pub words : length bs' ≡ length bs
  pub nodes : node_room_in bs' ≡ node_room_in bs
  pub children : child_room_in bs' ≡ child_room_in bs
  pub free : (j : ℕ) → j < m → name_length_in (place_at bs' n c j) ≡ 0
  pub beyond : drop (book_words n c) bs' ≡ drop (book_words n c) bs

-- a names buffer is clean, and i is a place
pub record DropReady (bs : List ℕ) (i : ℕ) : Type 0 where
  pub book : book_clean bs ≡ true
  pub inside : i < MAX_STATES

-- store and names buffer are clean
pub record ResetReady (h ws ks bs : List ℕ) : Type 0 where
  pub clean : words.clean h ws ks ≡ true
  pub book : book_clean bs ≡ true

-- the store is empty, and no name is held
pub record ResetLeft (h ws ks bs h' ws' ks' bs' : List ℕ) : Type 0 where
  pub store : Became h ws ks h' ws' ks' (reset (store_in h ws ks))
  pub book : BookBecame bs bs' (blank (book_in bs).node_room (book_in bs).child_room)
