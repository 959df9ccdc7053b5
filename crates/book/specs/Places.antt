-- What the code reads and writes of a names buffer: its capacities, a place's words `ps`, and the name in them.
use Rattle.std.specs.Prelude.{List, ◌∷◌, ◌++◌, map, Bool, false, ℕ, suc, ◌-◌, ◌≤◌, ◌<◌, eqb, ltb, length, get_or, take, drop}
use Rattle.std.specs.Prelude.{Some, None, Option}
use Rattle.scope.specs.Base.{pick, from}
use Rattle.scope.specs.Limits.{MAX_STATES, MAX_STATE_NAME}
use Rattle.scope.specs.Names.{eq_bytes}
use Rattle.scope.specs.States.{Place}
use Rattle.book.specs.Words.{NAME_WORDS, place_from, book_words, place_at, name_length_in, name_bytes_in, place_in, node_room_in, child_room_in}
use Rattle.book.specs.declared.Room.{Room}

abbrev pub room_in : List ℕ → Room
room_in bs = record { nodes = node_room_in bs; children = child_room_in bs }

-- the place i of a book
abbrev pub place_of : List ℕ → ℕ → Place
place_of bs i = place_in (node_room_in bs) (child_room_in bs) (place_at bs (node_room_in bs) (child_room_in bs) i)

-- there is a place i in a book for n nodes and c children
pub record PlaceLies (bs : List ℕ) (n c i : ℕ) : Type 0 where
  pub words : book_words n c ≤ length bs
  pub index : i < MAX_STATES

-- words a to e become ys, as a part that was lent comes back
abbrev pub put_part : List ℕ → ℕ → ℕ → List ℕ → List ℕ
put_part xs a e ys = take a xs ++ (ys ++ drop (e - a) (drop a xs))

-- the book with other words at place i
abbrev pub put_place : List ℕ → ℕ → ℕ → ℕ → List ℕ → List ℕ
put_place bs n c i ps = put_part bs (place_from n c i) (place_from n c (suc i)) ps

-- a place has the words that its name's length says
abbrev pub NameLies : List ℕ → Type 0
NameLies ps = suc (name_length_in ps) ≤ length ps

-- a place is held under exactly these bytes: `under` of the place
unfoldable pub held_under : List ℕ → List ℕ → Bool
held_under name ps = pick (eqb (name_length_in ps) 0) false (eq_bytes (name_bytes_in ps) name)

-- there is room for a name's words, and the name has no more bytes than a name can have
pub record Nameable (ps name : List ℕ) : Type 0 where
  pub words : NAME_WORDS ≤ length ps
  pub bytes : length name ≤ MAX_STATE_NAME

-- a name in words: its length, its bytes, and zeros behind them
abbrev pub name_bytes : List ℕ → List ℕ
name_bytes name = map (λ i. get_or name i 0) (from 0 MAX_STATE_NAME)

unfoldable pub put_name : List ℕ → List ℕ → List ℕ
put_name ps name = length name ∷ (name_bytes name ++ drop NAME_WORDS ps)

-- what a search of the places answers: MAX_STATES, which numbers no place, is none
abbrev pub if_place : ℕ → Option ℕ
if_place i = pick (ltb i MAX_STATES) (Some i) None
