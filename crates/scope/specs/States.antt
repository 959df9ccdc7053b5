-- 02's "Named states to come back to": a names buffer beside the store, the calls that name the present state, return to a named one and drop a name, and
-- `reset`, which drops all names. "The same number", 8, "meets any record that a later call keeps beside the store, if it is unsound, too short or made for
-- other capacities". Where a place's words lie, and that a name's unused words are zero, is the layout's: here a buffer is stray or a book.
use Rattle.std.specs.Prelude.{List, [], ◌∷◌, ◌++◌, Bool, true, false, not, ◌&&◌, ◌||◌, ℕ, suc, eqb, leb, length, get_or, set, replicate}
use Rattle.std.proofs.Math.Option.{Option, none, some}
use Rattle.scope.specs.Base.{pick, all, any}
use Rattle.scope.specs.Limits.{MAX_STATES, MAX_STATE_NAME}
use Rattle.scope.specs.Names.{eq_bytes}
use Rattle.scope.specs.Chart.{Env}
use Rattle.scope.specs.Nodes.{Store, opened}
use Rattle.scope.specs.Force.{with_reports, reset}
use Rattle.scope.specs.Sound.{Lent, sound_store}
use Rattle.scope.specs.Refusals.{UNSOUND, UNHELD, NO_PLACE, Outcome, done, first_broken, judged, store_of, open_test, lent_tests}

-- a held state: its name's bytes, and the whole store that was named
pub record Named : Type 0 where
  pub name : List ℕ
  pub store : Store

-- a place is free or held
abbrev pub Place : Type 0
Place = Option Named

-- what a names buffer says: the capacities that it was made for, and its places
pub record Book : Type 0 where
  pub node_room : ℕ
  pub child_room : ℕ
  pub places : List Place

-- what is lent as a names buffer: its numbers say a book, or they are too few, break a range or leave a name's unused word not zero
pub data LentBook : Type 0 where
  stray_book : LentBook
  reads_book : Book → LentBook

-- a book without a name, for n nodes and c children
abbrev pub blank : ℕ → ℕ → Book
blank n c = record { node_room = n; child_room = c; places = replicate MAX_STATES none }

-- the book that is lent; a stray one is refused before this is looked at
abbrev pub book_of : LentBook → Book
book_of stray_book = blank 0 0
book_of (reads_book b) = b

abbrev pub with_places : Book → List Place → Book
with_places b ps = record { node_room = b.node_room; child_room = b.child_room; places = ps }

-- a place is free; it is held under the name n, "compared as bytes"
abbrev pub is_free : Place → Bool
is_free none = true
is_free (some h) = false

abbrev pub under : List ℕ → Place → Bool
under n none = false
under n (some h) = eq_bytes h.name n

-- a name is held; "holds no name"
abbrev pub is_held : List ℕ → List Place → Bool
is_held n ps = any (under n) ps

abbrev pub holds_none : Book → Bool
holds_none b = all is_free b.places

-- the first place that passes a test, counted from 0; where none does, their number
unfoldable pub place_where : (Place → Bool) → List Place → ℕ
place_where p [] = 0
place_where p (x ∷ xs) = pick (p x) 0 (suc (place_where p xs))

-- where a name goes: "Naming again under a held name replaces it", and another one takes the first free place
abbrev pub place_for : List ℕ → List Place → ℕ
place_for n ps = pick (is_held n ps) (place_where (under n) ps) (place_where is_free ps)

-- the store of a place; a free one's is not looked at
abbrev pub held_store : Place → Store
held_store none = opened 0 0
held_store (some h) = h.store

-- the store that is held under a name
abbrev pub store_under : List ℕ → List Place → Store
store_under n ps = held_store (get_or ps (place_where (under n) ps) none)

-- "names of 1 to 255 bytes"
abbrev pub name_length : List ℕ → Bool
name_length n = leb 1 (length n) && leb (length n) MAX_STATE_NAME

-- the same capacities
abbrev pub same_room : Store → Book → Bool
same_room s b = eqb s.node_room b.node_room && eqb s.child_room b.child_room

-- a held place: a name of its length, and a store that is sound under the present chart and has the book's capacities
abbrev pub place_sound : Env → Book → Place → Bool
place_sound e b none = true
place_sound e b (some h) = name_length h.name && (same_room h.store b && sound_store e h.store)

-- no two equal names
abbrev pub held_once : Place → List Place → Bool
held_once none ps = true
held_once (some h) ps = not (is_held h.name ps)

abbrev pub names_differ : List Place → Bool
names_differ [] = true
names_differ (p ∷ ps) = held_once p ps && names_differ ps

-- a book beside a store: eight places, made for the store's capacities, every held place sound, not only the one asked for
unfoldable pub book_sound : Env → Store → Book → Bool
book_sound e s b =
    eqb (length b.places) MAX_STATES && (same_room s b && (all (place_sound e b) b.places && names_differ b.places))

abbrev pub lent_book_sound : Env → Store → LentBook → Bool
lent_book_sound e s stray_book = false
lent_book_sound e s (reads_book b) = book_sound e s b

-- what every call on a store and a names buffer can answer: 2, then 8 of either
abbrev pub book_tests : Env → Lent → LentBook → List (Bool × ℕ)
book_tests e l k = lent_tests e l ++ ((not (lent_book_sound e (store_of l) k), UNSOUND) ∷ [])

-- "An unheld name, or one of a wrong length": 12
abbrev pub wrong_length : List ℕ → Bool × ℕ
wrong_length n = (not (name_length n), UNHELD)

abbrev pub unheld : List ℕ → List Place → Bool × ℕ
unheld n ps = (not (name_length n) || not (is_held n ps), UNHELD)

-- "a ninth": the name isn't held, and no place is free: 13
abbrev pub no_place : List ℕ → List Place → Bool × ℕ
no_place n ps = (not (is_held n ps) && not (any is_free ps), NO_PLACE)

-- what opening a names buffer comes to: a refusal's number, with all memory as found, or the book that it then holds
pub data Opening : Type 0 where
  unopened : ℕ → Opening
  opens : Book → Opening

abbrev pub or_unopened : Option ℕ → Book → Opening
or_unopened none b = opens b
or_unopened (some n) b = unopened n

-- opening it for n nodes and c children; `enough` says that it is long enough for them
unfoldable pub open_names_call : ℕ → ℕ → Bool → Opening
open_names_call n c enough = or_unopened (first_broken (open_test n c enough ∷ [])) (blank n c)

-- each call's outcome: a refusal, with store and names buffer as found, or the book afterwards and the store afterwards

-- the present state, held under a name
abbrev pub named : List ℕ → Store → Book → Book
named n s b = with_places b (set b.places (place_for n b.places) (some (record { name = n; store = s })))

-- "Let a planner name the present state"
unfoldable pub name_state_call : Env → Lent → LentBook → List ℕ → Outcome Book
name_state_call e l k n =
    let s : Store = store_of l in
    let b : Book = book_of k in
    judged (book_tests e l k ++ (wrong_length n ∷ no_place n b.places ∷ [])) (done (named n s b) s)

-- "the report count does not go back, since those messages have been read": the store that was named, with the count as it stands now
abbrev pub keep_reports : Store → Store → Store
keep_reports now held = with_reports held now.reports

-- "Returning restores every node, the remembered error and nil types and every capacity figure"; the name stays held
unfoldable pub return_to_call : Env → Lent → LentBook → List ℕ → Outcome Book
return_to_call e l k n =
    let s : Store = store_of l in
    let b : Book = book_of k in
    judged (book_tests e l k ++ (unheld n b.places ∷ [])) (done b (keep_reports s (store_under n b.places)))

-- "dropping a name makes its place usable"
abbrev pub dropped : List ℕ → Book → Book
dropped n b = with_places b (set b.places (place_where (under n) b.places) none)

unfoldable pub drop_name_call : Env → Lent → LentBook → List ℕ → Outcome Book
drop_name_call e l k n =
    let s : Store = store_of l in
    let b : Book = book_of k in
    judged (book_tests e l k ++ (unheld n b.places ∷ [])) (done (dropped n b) s)

-- "`reset` frees all" and "drops all names"; the report count "outlives `reset`". There is no other `reset`: one without the names buffer would let names survive it
unfoldable pub reset_names_call : Env → Lent → LentBook → Outcome Book
reset_names_call e l k =
    let s : Store = store_of l in
    let b : Book = book_of k in
    judged (book_tests e l k) (done (blank b.node_room b.child_room) (reset s))
