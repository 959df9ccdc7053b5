-- Returning to a place: a held place's parts are a clean store within the capacities, and it is the store that the book has there.
-- Assumes nothing.
use mathlib.Core.Path.{◌≡◌, refl, ap, sym, subst, ◌∙◌}
use mathlib.Core.Bool.{true}
use mathlib.Core.List.{List}
use mathlib.Core.Option.{none}
use Prim.Native.Nat.{ℕ, ◌-◌}
use native.Mathlib.Omega.{arith}
use lib.ListN.{length, get_or}
use borrow.Rule.Slice.PartMut.{mid_len}
use borrow.Author.Tests.{eqb-false, ne_eqb}
use Rattle.scope.specs.States.{held_store, is_free, keep_reports}
use Rattle.layout.specs.Words.{node_room, child_room, store_in, clean}
use Rattle.layout.specs.Meaning.{Lies}
use Rattle.layout.proofs.Lists.{and_right}
use Rattle.layout.proofs.StoreLaws.{clean_lies}
use Rattle.store.specs.Holds.{Became}
use Rattle.book.specs.Words.{nodes_from, kids_from, place_words, place_at, name_length_in, head_in, nodes_in, kids_in, with_room, place_in, node_room_in, child_room_in, book_in}
use Rattle.book.specs.Words.{name_words_clean, counts_are_room, held_clean}
use Rattle.book.specs.Places.{room_in, PlaceLies}
use Rattle.book.specs.declared.Room.{Room}
use Rattle.book.proofs.Places.{book_lies, places_at, place_length}
use Rattle.book.proofs.Names.{free_is, clean_held}
use Rattle.keep.specs.Kept.{BackReady, store_back}
use Rattle.states.specs.Ready.{store_at, ReturnReady}
use Rattle.states.proofs.NameLaws.{at_lies, at_nodes, at_children}

-- a held place's store
held_store_lem : (n c : ℕ) (ps : List ℕ) → (name_length_in ps ≡ 0 → ⊥) → held_store (place_in n c ps) ≡ with_room n c (store_in (head_in ps) (nodes_in n ps) (kids_in n c ps))
unfolding place_in
held_store_lem n c ps z = rw (ne_eqb (name_length_in ps) 0 z) refl

held_clean_lem : (n c : ℕ) (ps : List ℕ) → held_clean n c ps ≡ true → clean (head_in ps) (nodes_in n ps) (kids_in n c ps) ≡ true
unfolding held_clean
held_clean_lem n c ps e =
    and_right (counts_are_room (head_in ps)) _ (and_right (name_words_clean ps) _ e)

module _ {h ws ks bs : List ℕ} {i : ℕ} (r : ReturnReady h ws ks bs i) {m : Room} (q : m ≡ room_in bs) where
  pub return_lies : PlaceLies bs m.nodes m.children i
  return_lies = at_lies r.at q

  module _ {ps : List ℕ} (p : ps ≡ place_at bs m.nodes m.children i) where
    pub return_words : length ps ≡ place_words m.nodes m.children
    return_words = ap length p ∙ place_length bs m.nodes m.children i return_lies.words return_lies.index

    place_is : ps ≡ place_at bs (node_room_in bs) (child_room_in bs) i
    place_is = rw q at p

    there : get_or (book_in bs).places i none ≡ place_in (node_room_in bs) (child_room_in bs) ps
    unfolding book_in
    there = places_at bs i r.at.inside ∙ ap (place_in (node_room_in bs) (child_room_in bs)) (sym place_is)

    held : name_length_in ps ≡ 0 → ⊥
    held = eqb-false (name_length_in ps) 0 (sym (free_is (node_room_in bs) (child_room_in bs) ps) ∙ (ap is_free (sym there) ∙ r.held))

    store_there : store_at (book_in bs) i ≡ with_room m.nodes m.children (store_in (head_in ps) (nodes_in m.nodes ps) (kids_in m.nodes m.children ps))
    store_there = ap held_store there ∙ rw q (held_store_lem (node_room_in bs) (child_room_in bs) ps held)

    clean_there : clean (head_in ps) (nodes_in m.nodes ps) (kids_in m.nodes m.children ps) ≡ true
    clean_there =
        rw q (held_clean_lem (node_room_in bs) (child_room_in bs) ps
        (sym (clean_held (node_room_in bs) (child_room_in bs) ps held) ∙ rw place_is ((book_lies bs r.at.book).each i r.at.inside)))

    module _ {hd wn kn : List ℕ} (a : hd ≡ head_in ps) (b : wn ≡ nodes_in m.nodes ps) (d : kn ≡ kids_in m.nodes m.children ps) where
      then_clean : clean hd wn kn ≡ true
      then_clean = rw (a, b, d) clean_there

      then_lies : Lies hd wn kn
      then_lies = clean_lies hd wn kn then_clean

      nodes_long : length wn ≡ kids_from m.nodes - nodes_from
      nodes_long = ap length b ∙ mid_len nodes_from (kids_from m.nodes) ps (let l = return_words in omega arith)

      kids_long : length kn ≡ place_words m.nodes m.children - kids_from m.nodes
      kids_long = ap length d ∙ mid_len (kids_from m.nodes) (place_words m.nodes m.children) ps (let l = return_words in omega arith)

      room_nodes : node_room h ≡ m.nodes
      unfolding store_in
      room_nodes = at_nodes r.at q

      room_children : child_room h ≡ m.children
      unfolding store_in
      room_children = at_children r.at q

      pub return_back : BackReady h ws ks hd wn kn
      return_back =
          let l = then_lies in
          let n = nodes_long in
          let c = kids_long in
          let x = room_nodes in
          let y = room_children in
          record {
            clean = r.at.clean;
            kept = then_clean;
            nodes = omega (arith, l.nodes, l.node_slots);
            children = omega (arith, l.children, l.child_slots);
          }

      back_is : store_back (store_in h ws ks) (store_in hd wn kn) ≡ keep_reports (store_in h ws ks) (store_at (book_in bs) i)
      back_is = rw (a, b, d, store_there, at_nodes r.at q, at_children r.at q) refl

      pub return_became : {h' ws' ks' : List ℕ} → Became h ws ks h' ws' ks' (store_back (store_in h ws ks) (store_in hd wn kn))
          → Became h ws ks h' ws' ks' (keep_reports (store_in h ws ks) (store_at (book_in bs) i))
      return_became {h'} {ws'} {ks'} k = subst (Became h ws ks h' ws' ks') back_is k
