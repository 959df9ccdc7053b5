-- What the code tests of a names buffer, place by place. proofs/Laws has scope's `lent_book_sound` as these tests.
use Rattle.std.specs.Prelude.{◌≡◌, List, map, Bool, true, not, ◌&&◌, ℕ, suc, ◌-◌, ◌<◌, ltb}
use Rattle.scope.specs.Base.{all, from}
use Rattle.scope.specs.Limits.{MAX_STATES}
use Rattle.scope.specs.Chart.{Env}
use Rattle.scope.specs.Nodes.{Store, opened}
use Rattle.scope.specs.States.{blank, place_sound, held_once}
use Rattle.layout.specs.Words.{node_room, child_room}
use Rattle.book.specs.Words.{place_at, place_in, place_clean, name_bytes_in, node_room_in, child_room_in, book_clean}
use Rattle.book.specs.Places.{place_of, held_under}

-- of the store that a names buffer stands beside only its capacities are looked at
abbrev pub room_alone : List ℕ → Store
room_alone h = opened (node_room h) (child_room h)

abbrev pub is_below : ℕ → ℕ → Bool
is_below limit w = ltb w limit

-- a place's words are within their values, and what it holds is sound in a book of these capacities
abbrev pub place_ok : Env → ℕ → ℕ → List ℕ → Bool
place_ok e n c ps = place_clean n c ps && place_sound e (blank n c) (place_in n c ps)

abbrev pub places_ok : Env → ℕ → ℕ → List ℕ → Bool
places_ok e n c bs = all (λ i. place_ok e n c (place_at bs n c i)) (from 0 MAX_STATES)

-- a place of a clean book
pub record Listed (bs : List ℕ) (i : ℕ) : Type 0 where
  pub clean : book_clean bs ≡ true
  pub index : i < MAX_STATES

-- place j is not held under place i's name
abbrev pub other_name : List ℕ → ℕ → ℕ → Bool
other_name bs i j =
    not (held_under (name_bytes_in (place_at bs (node_room_in bs) (child_room_in bs) i)) (place_at bs (node_room_in bs) (child_room_in bs) j))

-- no later place is held under the name of place i
abbrev pub name_once : List ℕ → ℕ → Bool
name_once bs i = held_once (place_of bs i) (map (place_of bs) (from (suc i) (MAX_STATES - suc i)))
