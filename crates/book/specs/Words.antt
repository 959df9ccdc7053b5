-- A names buffer in one lent slice of numbers: the capacities that it was made for, then eight places of one size. A place is a name's length (0 is free),
-- a word for each byte that a name can have, and a store in words as `layout` has them: its head, its nodes, its children. A held head says its counts as its
-- capacities, so that only what is used of a state counts, and only that is copied. Words of a free place behind its length, words of a held place behind what
-- is used, and words past the last place are no part of the book.
use Rattle.std.specs.Prelude.{◌≡◌, List, map, Bool, true, ◌&&◌, ℕ, suc, ◌+◌, ◌*◌, eqb, leb, ltb, length, get_or, drop}
use Rattle.std.proofs.Math.Option.{none, some}
use Rattle.scope.specs.Base.{pick, all, from}
use Rattle.scope.specs.Limits.{MAX_STATES, MAX_STATE_NAME}
use Rattle.scope.specs.Nodes.{Store}
use Rattle.scope.specs.Sound.{zeros}
use Rattle.scope.specs.States.{Place, Book, LentBook, stray_book, reads_book}
use Rattle.layout.specs.Words.{HEAD_WORDS, node_words, child_words, nodes_made, children_made, node_room, child_room, store_in, clean, between}

-- the two capacities
abbrev pub BOOK_HEAD : ℕ
BOOK_HEAD = 2

-- a name's length and its bytes, a word each
abbrev pub NAME_WORDS : ℕ
NAME_WORDS = suc MAX_STATE_NAME

-- where the parts of a place begin: its head, its nodes, its children, and what comes next
abbrev pub nodes_from : ℕ
nodes_from = NAME_WORDS + HEAD_WORDS

abbrev pub kids_from : ℕ → ℕ
kids_from n = nodes_from + node_words n

abbrev pub place_words : ℕ → ℕ → ℕ
place_words n c = kids_from n + child_words c

-- how many words a book for n nodes and c children takes
abbrev pub book_words : ℕ → ℕ → ℕ
book_words n c = BOOK_HEAD + MAX_STATES * place_words n c

-- where place i begins, and its words
abbrev pub place_from : ℕ → ℕ → ℕ → ℕ
place_from n c i = BOOK_HEAD + i * place_words n c

abbrev pub place_at : List ℕ → ℕ → ℕ → ℕ → List ℕ
place_at bs n c i = between bs (place_from n c i) (place_from n c (suc i))

-- the parts of a place's words
abbrev pub name_length_in : List ℕ → ℕ
name_length_in ps = get_or ps 0 0

abbrev pub name_bytes_in : List ℕ → List ℕ
name_bytes_in ps = between ps 1 (suc (name_length_in ps))

abbrev pub head_in : List ℕ → List ℕ
head_in ps = between ps NAME_WORDS nodes_from

abbrev pub nodes_in : ℕ → List ℕ → List ℕ
nodes_in n ps = between ps nodes_from (kids_from n)

abbrev pub kids_in : ℕ → ℕ → List ℕ → List ℕ
kids_in n c ps = between ps (kids_from n) (place_words n c)

-- a held state has the capacities of the book
abbrev pub with_room : ℕ → ℕ → Store → Store
with_room n c s = record {
  nodes = s.nodes;
  children = s.children;
  node_room = n;
  child_room = c;
  error = s.error;
  nil = s.nil;
  reports = s.reports;
}

abbrev pub held_in : ℕ → ℕ → List ℕ → Store
held_in n c ps = with_room n c (store_in (head_in ps) (nodes_in n ps) (kids_in n c ps))

unfoldable pub place_in : ℕ → ℕ → List ℕ → Place
place_in n c ps = pick (eqb (name_length_in ps) 0) none (some (record { name = name_bytes_in ps; store = held_in n c ps }))

-- a name's words: its length is one that a name can have, each is a byte, which is below BYTES, and unused ones are zero
abbrev pub BYTES : ℕ
BYTES = 256

abbrev pub is_byte : ℕ → Bool
is_byte b = ltb b BYTES

unfoldable pub name_words_clean : List ℕ → Bool
name_words_clean ps =
    leb (name_length_in ps) MAX_STATE_NAME
    && (all is_byte (name_bytes_in ps) && zeros (between ps (suc (name_length_in ps)) NAME_WORDS))

-- a held head says its counts as its capacities
abbrev pub counts_are_room : List ℕ → Bool
counts_are_room h = eqb (node_room h) (nodes_made h) && eqb (child_room h) (children_made h)

unfoldable pub held_clean : ℕ → ℕ → List ℕ → Bool
held_clean n c ps =
    name_words_clean ps && (counts_are_room (head_in ps) && clean (head_in ps) (nodes_in n ps) (kids_in n c ps))

unfoldable pub place_clean : ℕ → ℕ → List ℕ → Bool
place_clean n c ps = pick (eqb (name_length_in ps) 0) true (held_clean n c ps)

-- the capacities that a names buffer was made for
abbrev pub node_room_in : List ℕ → ℕ
node_room_in bs = get_or bs 0 0

abbrev pub child_room_in : List ℕ → ℕ
child_room_in bs = get_or bs 1 0

abbrev pub places_in : List ℕ → List Place
places_in bs = map (λ i. place_in (node_room_in bs) (child_room_in bs) (place_at bs (node_room_in bs) (child_room_in bs) i)) (from 0 MAX_STATES)

-- the book that a names buffer holds
unfoldable pub book_in : List ℕ → Book
book_in bs = record { node_room = node_room_in bs; child_room = child_room_in bs; places = places_in bs }

-- it is long enough, and each place's words are within their values
unfoldable pub book_clean : List ℕ → Bool
book_clean bs =
    leb BOOK_HEAD (length bs)
    && (leb (book_words (node_room_in bs) (child_room_in bs)) (length bs)
    && all (λ i. place_clean (node_room_in bs) (child_room_in bs) (place_at bs (node_room_in bs) (child_room_in bs) i)) (from 0 MAX_STATES))

-- what a lent slice is as a names buffer
unfoldable pub lent_book_of : List ℕ → LentBook
lent_book_of bs = pick (book_clean bs) (reads_book (book_in bs)) stray_book

-- the slice holds a book, and words past it are as they were
pub record BookBecame (bs bs' : List ℕ) (b : Book) : Type 0 where
  pub clean : book_clean bs' ≡ true
  pub is : book_in bs' ≡ b
  pub beyond : drop (book_words b.node_room b.child_room) bs' ≡ drop (book_words b.node_room b.child_room) bs
