-- Opening: from its test passed to what a store that is opened asks of the slices.
-- Assumes nothing.
use mathlib.Core.Path.{◌≡◌}
use mathlib.Core.Bool.{Bool, not, ◌&&◌, ◌||◌}
use mathlib.Core.List.{List, [], ◌∷◌}
use mathlib.Core.Option.{none}
use Prim.Native.Nat.{ℕ}
use lib.Dec.{ltb, leb}
use lib.ListN.{length}
use borrow.Author.Tests.{ltb-false, leb-true, not-false}
use Rattle.scope.specs.Limits.{MAX_NODES, MAX_CHILDREN}
use Rattle.scope.specs.Calls.{first_broken, open_test}
use Rattle.scope.proofs.TestLaws.{or_no}
use Rattle.names.proofs.Tests.{both}
use Rattle.layout.specs.Words.{HEAD_WORDS, node_words, child_words}
use Rattle.store.specs.Holds.{Openable}
use Rattle.scope.specs.Refusals.{UNOPENABLE}
use Rattle.refusals.specs.Opening.{enough}
use Rattle.refusals.proofs.Laws.{test_passed}

module _ (n c : ℕ) (h ws ks : List ℕ) (q : first_broken (open_test n c (enough n c h ws ks) ∷ []) ≡ none) where
  pub openable : Openable n c h ws ks
  unfolding enough
  openable =
      let t : Bool × ℕ = open_test n c (enough n c h ws ks) in
      let p = or_no (ltb MAX_NODES n) (ltb MAX_CHILDREN c || not (enough n c h ws ks)) (test_passed t.0 UNOPENABLE [] q) in
      let o = or_no (ltb MAX_CHILDREN c) (not (enough n c h ws ks)) p.1 in
      let a : Bool = leb (node_words n) (length ws) in
      let b : Bool = leb (child_words c) (length ks) in
      let w = both (leb HEAD_WORDS (length h)) (a && b) (not-false (enough n c h ws ks) o.1) in
      let v = both a b w.1 in
      record {
        nodes = ltb-false MAX_NODES n p.0;
        children = ltb-false MAX_CHILDREN c o.0;
        head = leb-true HEAD_WORDS (length h) w.0;
        node_len = leb-true (node_words n) (length ws) v.0;
        child_len = leb-true (child_words c) (length ks) v.1;
      }
