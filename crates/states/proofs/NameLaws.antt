-- Naming at a place: the words of that place are what `hold` asks for, and once it holds the state the book does.
-- Assumes nothing.
use mathlib.Core.Path.{◌≡◌, refl, ap, ◌∙◌}
use mathlib.Core.Bool.{true}
use mathlib.Core.List.{List}
use Prim.Native.Nat.{ℕ, ◌+◌, ◌-◌, ◌≤◌}
use native.Mathlib.Numerals.{add-one}
use lib.Dec.{eqb}
use lib.ListN.{length}
use borrow.Rule.Slice.PartMut.{mid_of, put_mid}
use borrow.Author.Tests.{eqb-true}
use Rattle.scope.specs.Nodes.{Store}
use Rattle.scope.specs.States.{same_room}
use Rattle.layout.specs.Words.{store_in}
use Rattle.layout.proofs.Lists.{and_left, and_right}
use Rattle.book.specs.Words.{place_from, place_at, node_room_in, child_room_in, book_in, BookBecame}
use Rattle.book.specs.Places.{room_in, PlaceLies}
use Rattle.book.specs.declared.Room.{Room}
use Rattle.book.proofs.Places.{book_lies, place_length, became_put}
use Rattle.states.specs.Ready.{holding, with_place, AtPlace, NameReady, HoldReady, HeldPlace}
use Rattle.states.proofs.FreeLaws.{place_fits, place_back}

-- the same capacities

module _ (s : Store) (bs : List ℕ) (e : same_room s (book_in bs) ≡ true) where
  pub same_nodes : s.node_room ≡ node_room_in bs
  unfolding book_in
  same_nodes = eqb-true s.node_room (node_room_in bs) (and_left (eqb s.node_room (node_room_in bs)) (eqb s.child_room (child_room_in bs)) e)

  pub same_children : s.child_room ≡ child_room_in bs
  unfolding book_in
  same_children = eqb-true s.child_room (child_room_in bs) (and_right (eqb s.node_room (node_room_in bs)) (eqb s.child_room (child_room_in bs)) e)

module _ {h ws ks bs : List ℕ} {i : ℕ} (p : AtPlace h ws ks bs i) {m : Room} (q : m ≡ room_in bs) where
  pub at_lies : PlaceLies bs m.nodes m.children i
  at_lies = rw q (record { words = (book_lies bs p.book).words; index = p.inside })

  pub at_nodes : (store_in h ws ks).node_room ≡ m.nodes
  at_nodes = rw q (same_nodes (store_in h ws ks) bs p.room)

  pub at_children : (store_in h ws ks).child_room ≡ m.children
  at_children = rw q (same_children (store_in h ws ks) bs p.room)

module _ {h ws ks bs : List ℕ} {i : ℕ} {name : List ℕ} (r : NameReady h ws ks bs i name) {m : Room} (q : m ≡ room_in bs) {a e : ℕ}
    (f : a ≡ place_from m.nodes m.children i) (g : e ≡ place_from m.nodes m.children (i + 1)) where
  lies : PlaceLies bs m.nodes m.children i
  lies = at_lies r.at q

  pub name_fits_in : e ≤ length bs
  name_fits_in = place_fits lies f g

  place_is : mid_of a (e - a) bs ≡ place_at bs m.nodes m.children i
  place_is = rw (f, g, add-one i) refl

  pub name_hold : HoldReady h ws ks (mid_of a (e - a) bs) m.nodes m.children name
  name_hold = record {
    clean = r.at.clean;
    nodes = at_nodes r.at q;
    children = at_children r.at q;
    words = ap length place_is ∙ place_length bs m.nodes m.children i lies.words lies.index;
    fits = r.fits;
  }

  pub name_became : {ps : List ℕ} → HeldPlace ps m.nodes m.children name (store_in h ws ks)
      → BookBecame bs (put_mid a (e - a) bs ps) (with_place (book_in bs) i (holding name (store_in h ws ks)))
  name_became {ps} k =
      let k₁ : HeldPlace ps (node_room_in bs) (child_room_in bs) name (store_in h ws ks) = rw q at k in
      rw (place_back lies f g ps, q)
      (rw k₁.is at (became_put bs (book_lies bs r.at.book) i r.at.inside ps k₁.words k₁.clean))
