-- Room for more: the tests of a store's room look at its header alone, and a store within its limits that they do not turn back is ready for what a
-- maker makes.
-- Assumes nothing.
use mathlib.Core.Path.{◌≡◌, ap, ◌∙◌}
use mathlib.Core.Bool.{Bool, true, false}
use mathlib.Core.List.{List, [], ◌∷◌}
use mathlib.Core.Option.{Option, none, some}
use Prim.Native.Nat.{ℕ, ◌+◌}
use lib.Dec.{ltb}
use lib.ListN.{length}
use borrow.Author.Tests.{ltb-false}
use Rattle.scope.specs.Nodes.{Node, Store}
use Rattle.scope.specs.Calls.{first_broken, room_tests}
use Rattle.layout.specs.Words.{store_in}
use Rattle.layout.specs.Meaning.{header_in, store_means}
use Rattle.layout.specs.declared.Header.{Header}
use Rattle.store.specs.Holds.{Ready}
use Rattle.store.proofs.Laws.{store_count}
use Rattle.scope.specs.Refusals.{NODES_FULL, CHILDREN_FULL}
use Rattle.refusals.proofs.Laws.{test_stands, test_falls, test_passed, tests_passed}

-- the tests of room, by a header

abbrev pub node_test : Header → ℕ → Bool
node_test x n = ltb x.node_room (x.nodes + n)

abbrev pub child_test : Header → ℕ → Bool
child_test x c = ltb x.child_room (x.children + c)

module _ (h ws ks : List ℕ) (x : Header) (g : x ≡ header_in h) (n c : ℕ) where
  room_in : room_tests (store_in h ws ks) n c ≡ (node_test (header_in h) n, NODES_FULL) ∷ (child_test (header_in h) c, CHILDREN_FULL) ∷ []
  unfolding store_in
  room_in = rw (store_count h ws ks)

  room_tests_lem : first_broken (room_tests (store_in h ws ks) n c) ≡ first_broken ((node_test x n, NODES_FULL) ∷ (child_test x c, CHILDREN_FULL) ∷ [])
  room_tests_lem = rw g (ap first_broken room_in)

  pub nodes_full : node_test x n ≡ true → first_broken (room_tests (store_in h ws ks) n c) ≡ some NODES_FULL
  nodes_full l = room_tests_lem ∙ test_stands NODES_FULL ((child_test x c, CHILDREN_FULL) ∷ []) l

  pub room_left : node_test x n ≡ false → child_test x c ≡ false → first_broken (room_tests (store_in h ws ks) n c) ≡ none
  room_left l m = room_tests_lem ∙ (test_falls NODES_FULL ((child_test x c, CHILDREN_FULL) ∷ []) l ∙ test_falls CHILDREN_FULL [] m)

  -- what a header tells of its stores, it tells of the one in the slices
  pub room_told : {o : Option ℕ} → ((ns : List Node) → length ns ≡ x.nodes → first_broken (room_tests (store_means x ns) n c) ≡ o)
      → first_broken (room_tests (store_in h ws ks) n c) ≡ o
  unfolding store_in
  room_told t = (rw g at t) (store_in h ws ks).nodes (store_count h ws ks)

-- a store within its limits that 10 and 11 do not turn back is ready for what a maker makes
pub ready_more : {h ws ks : List ℕ} (n c : ℕ) → Ready h ws ks 0 0 → first_broken (room_tests (store_in h ws ks) n c) ≡ none → Ready h ws ks n c
ready_more {h} {ws} {ks} n c r t =
    let s : Store = store_in h ws ks in
    let a : Bool = ltb s.node_room (length s.nodes + n) in
    let b : Bool = ltb s.child_room (s.children + c) in
    record {
      clean = r.clean;
      room = record {
        node_limit = r.room.node_limit;
        child_limit = r.room.child_limit;
        nodes = ltb-false s.node_room (length s.nodes + n) (test_passed a NODES_FULL ((b, CHILDREN_FULL) ∷ []) t);
        children = ltb-false s.child_room (s.children + c) (test_passed b CHILDREN_FULL [] (tests_passed a NODES_FULL ((b, CHILDREN_FULL) ∷ []) t));
      };
    }
