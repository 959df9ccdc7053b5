-- Places made free: one, which changes no other, and all of them one after the other, which leaves a book without a name.
-- Assumes nothing.
use mathlib.Core.Path.{◌≡◌, refl, ap, sym, ◌∙◌}
use mathlib.Core.List.{List}
use mathlib.Core.Bool.{Bool, true, false}
use mathlib.Core.Option.{none}
use Prim.Native.Nat.{ℕ, ◌+◌, ◌-◌, ◌<◌, ◌≤◌}
use native.Mathlib.Omega.{arith}
use native.Mathlib.Numerals.{add-one}
use lib.Dec.{eqb}
use lib.ListN.{length, get_or, set, drop, replicate, length-set, get_or-replicate}
use lib.Seq.{get_or-set_same, get_or-set_other, drop-set-lt, ext_get_or}
use borrow.Rule.Slice.PartMut.{put_mid}
use borrow.Author.Tests.{eqb-true, eqb-false}
use Rattle.scope.specs.Limits.{MAX_STATES}
use Rattle.scope.specs.States.{blank}
use Rattle.book.specs.Words.{place_from, place_words, book_words, place_at, name_length_in, node_room_in, child_room_in, places_in, book_in, book_clean, BookBecame}
use Rattle.book.specs.Places.{room_in, PlaceLies, put_place}
use Rattle.book.specs.declared.Room.{Room}
use Rattle.book.proofs.Geometry.{place_ends}
use Rattle.book.proofs.Places.{BookLies, book_lies, lies_book, places_length, places_at, place_length, put_length, place_here, place_there, beyond_put, node_room_put}
use Rattle.book.proofs.Places.{child_room_put, became_put}
use Rattle.book.proofs.Names.{place_in_free, clean_free, freed}
use Rattle.states.specs.Ready.{with_place}
use Rattle.states.specs.Free.{freed_at, FreeTo, DropReady}

-- a place as a part that is lent

module _ {bs : List ℕ} {n c i : ℕ} (l : PlaceLies bs n c i) {a e : ℕ} (p : a ≡ place_from n c i) (q : e ≡ place_from n c (i + 1)) where
  pub place_fits : e ≤ length bs
  place_fits = let h = place_ends n c i l.index in let k = rw add-one at q in omega (arith, l.words)

  pub place_back : (ps : List ℕ) → put_mid a (e - a) bs ps ≡ put_place bs n c i ps
  place_back ps = rw (p, q, add-one i) refl

-- one place

module _ {bs : List ℕ} {n c i : ℕ} (l : PlaceLies bs n c i) where
  abbrev emptied : List ℕ
  emptied = set (place_at bs n c i) 0 0

  long : length emptied ≡ place_words n c
  long = length-set (place_at bs n c i) 0 0 ∙ place_length bs n c i l.words l.index

  free_by : (t : Bool) (j : ℕ) → eqb j i ≡ t → ((j ≡ i → ⊥) → name_length_in (place_at bs n c j) ≡ 0) → name_length_in (place_at (freed_at bs n c i) n c j) ≡ 0
  free_by true j q f =
      let z : j ≡ i = eqb-true j i q in
      rw z (ap name_length_in (place_here bs n c i l.words l.index emptied long) ∙ freed (place_at bs n c i))
  free_by false j q f =
      let z : j ≡ i → ⊥ = eqb-false j i q in
      ap name_length_in (place_there bs n c i l.words l.index emptied long j z) ∙ f z

  -- one more
  pub free_more : {bs₀ : List ℕ} → FreeTo bs₀ bs n c i → FreeTo bs₀ (freed_at bs n c i) n c (i + 1)
  free_more f = record {
    words = put_length bs n c i l.words l.index emptied long ∙ f.words;
    nodes = node_room_put bs n c i l.words l.index emptied long ∙ f.nodes;
    children = child_room_put bs n c i l.words l.index emptied long ∙ f.children;
    free = λ j h. free_by (eqb j i) j refl (λ z. f.free j (omega arith));
    beyond = beyond_put bs n c i l.words l.index emptied long ∙ f.beyond;
  }

pub free_next : {bs₀ bs : List ℕ} {n c i : ℕ} → FreeTo bs₀ bs n c i → book_words n c ≤ length bs₀ → i < MAX_STATES → PlaceLies bs n c i
free_next f w l = record { words = rw f.words w; index = l }

-- a name dropped
pub drop_lies : {bs : List ℕ} {i : ℕ} {r : Room} → DropReady bs i → r ≡ room_in bs → PlaceLies bs r.nodes r.children i
drop_lies {bs} d q = rw q (record { words = (book_lies bs d.book).words; index = d.inside })

pub drop_became : {bs bs' : List ℕ} {i : ℕ} {r : Room} → DropReady bs i → r ≡ room_in bs → bs' ≡ freed_at bs r.nodes r.children i
    → BookBecame bs bs' (with_place (book_in bs) i none)
drop_became {bs} {i = i} d q e =
    let l : PlaceLies bs (node_room_in bs) (child_room_in bs) i = drop_lies d refl in
    let ps : List ℕ = emptied l in
    let none_left : name_length_in ps ≡ 0 = freed (place_at bs (node_room_in bs) (child_room_in bs) i) in
    rw (e, q)
    (rw (place_in_free (node_room_in bs) (child_room_in bs) ps none_left) at
    (became_put bs (book_lies bs d.book) i d.inside ps (long l) (clean_free (node_room_in bs) (child_room_in bs) ps none_left)))

-- a book without a name

module _ (bs : List ℕ) {n c : ℕ} (nodes : node_room_in bs ≡ n) (children : child_room_in bs ≡ c) (words : book_words n c ≤ length bs)
    (free : (j : ℕ) → j < MAX_STATES → name_length_in (place_at bs n c j) ≡ 0) where
  blank_lies : BookLies bs
  blank_lies = record {
    head = omega (arith, words);
    words = rw (nodes, children) words;
    each = λ i l. rw (nodes, children) (clean_free n c (place_at bs n c i) (free i l));
  }

  blank_at : (j : ℕ) → j < MAX_STATES → get_or (places_in bs) j none ≡ get_or (replicate MAX_STATES none) j none
  blank_at j l =
      places_at bs j l
      ∙ (rw (nodes, children) (place_in_free n c (place_at bs n c j) (free j l)) ∙ sym (get_or-replicate MAX_STATES j none none l))

  blank_places : places_in bs ≡ replicate MAX_STATES none
  blank_places =
      ext_get_or none (places_in bs) (replicate MAX_STATES none) (places_length bs)
      (λ j h. blank_at j (rw (places_length bs) at h))

  blank_is : book_in bs ≡ blank n c
  unfolding book_in
  blank_is = rw (blank_places, nodes, children) refl

  blank_clean : book_clean bs ≡ true
  blank_clean = lies_book bs blank_lies

-- opened

module _ (bs : List ℕ) (n c : ℕ) (words : book_words n c ≤ length bs) where
  abbrev headed : List ℕ
  headed = set (set bs 0 n) 1 c

  pub headed_words : length headed ≡ length bs
  headed_words = length-set (set bs 0 n) 1 c ∙ length-set bs 0 n

  pub headed_enough : book_words n c ≤ length headed
  headed_enough = rw headed_words words

  headed_nodes : node_room_in headed ≡ n
  headed_nodes = get_or-set_other (set bs 0 n) 1 0 c 0 (λ z. omega arith) ∙ get_or-set_same bs 0 n 0 (omega (arith, words))

  headed_children : child_room_in headed ≡ c
  headed_children = get_or-set_same (set bs 0 n) 1 c 0 (omega (arith, words, length-set bs 0 n))

  headed_beyond : drop (book_words n c) headed ≡ drop (book_words n c) bs
  headed_beyond = drop-set-lt (book_words n c) (set bs 0 n) 1 c (omega arith) ∙ drop-set-lt (book_words n c) bs 0 n (omega arith)

  pub open_became : {bs' : List ℕ} → FreeTo headed bs' n c MAX_STATES → BookBecame bs bs' (blank n c)
  open_became {bs'} f =
      let x = f.nodes ∙ headed_nodes in
      let y = f.children ∙ headed_children in
      let z : book_words n c ≤ length bs' = rw f.words headed_enough in
      record {
        clean = blank_clean bs' x y z f.free;
        is = blank_is bs' x y z f.free;
        beyond = f.beyond ∙ headed_beyond;
      }

-- all names dropped
pub reset_enough : (bs : List ℕ) {r : Room} → book_clean bs ≡ true → r ≡ room_in bs → book_words r.nodes r.children ≤ length bs
reset_enough bs cl q = rw q (book_lies bs cl).words

pub reset_became : {bs bs' : List ℕ} {r : Room} → book_clean bs ≡ true → r ≡ room_in bs → FreeTo bs bs' r.nodes r.children MAX_STATES
    → BookBecame bs bs' (blank (book_in bs).node_room (book_in bs).child_room)
unfolding book_in
reset_became {bs} {bs'} cl q g =
    let f : FreeTo bs bs' (node_room_in bs) (child_room_in bs) MAX_STATES = rw q at g in
    let z : book_words (node_room_in bs) (child_room_in bs) ≤ length bs' = rw f.words (book_lies bs cl).words in
    record {
      clean = blank_clean bs' f.nodes f.children z f.free;
      is = blank_is bs' f.nodes f.children z f.free;
      beyond = f.beyond;
    }
