-- What a store is does not depend on words behind those that it uses: node words and children's words that begin alike hold the same nodes, and these are
-- clean in both. A node's twelve words lie among the first ones, and so do its children's, since clean nodes have them among the children made.
-- Assumes nothing.
use mathlib.Core.Path.{◌≡◌, ap, sym, ◌∙◌}
use mathlib.Core.List.{List, ◌++◌}
use Prim.Native.Nat.{ℕ, ◌+◌, ◌*◌, ◌<◌, ◌≤◌}
use native.Mathlib.Omega.{arith}
use lib.ListN.{length, get_or, take, drop, take-append-drop}
use lib.Seq.{get_or-take}
use borrow.Rule.Slice.PartMut.{mid_of}
use Rattle.layout.specs.Words.{node_words, child_words, decode}
use Rattle.layout.specs.Meaning.{cell_in, cell_words, Clean, Kept}
use Rattle.layout.proofs.Lists.{part_before}
use Rattle.layout.proofs.Cells.{cell_node, cell_clean, node_words_lem, clean_words}
use Rattle.layout.proofs.Laws.{decode_same}
use Rattle.layout.proofs.ChildLaws.{decode_kept, clean_kept}

-- lists that begin with the same n words

module _ (xs ys : List ℕ) (n : ℕ) (same : take n ys ≡ take n xs) where
  front_get : (i : ℕ) → i < n → get_or ys i 0 ≡ get_or xs i 0
  front_get i h = sym (get_or-take n ys i 0 h) ∙ (ap (λ (l : List ℕ). get_or l i 0) same ∙ get_or-take n xs i 0 h)

  front_part : (b j : ℕ) → b + j ≤ n → n ≤ length xs → mid_of b j ys ≡ mid_of b j xs
  front_part b j g h =
      ap (mid_of b j) (sym (take-append-drop n ys) ∙ ap (λ (l : List ℕ). l ++ drop n ys) same)
      ∙ part_before b j n xs (drop n ys) g h

-- n nodes and c children

module _ (ws ks ws' ks' : List ℕ) (c n : ℕ) (cl : Clean ws ks c n) (nodes : take (node_words n) ws' ≡ take (node_words n) ws)
    (kids : take (child_words c) ks' ≡ take (child_words c) ks) where
  same_kids : Kept c ks ks'
  same_kids = record {
    same = λ i h. rw (
      front_get ks ks' (child_words c) kids (i * 4 + 0) (omega arith),
      front_get ks ks' (child_words c) kids (i * 4 + 1) (omega arith),
      front_get ks ks' (child_words c) kids (i * 4 + 2) (omega arith),
      front_get ks ks' (child_words c) kids (i * 4 + 3) (omega arith),
    );
  }

  same_words : (i : ℕ) → i < n → cell_words ws' i ≡ cell_words ws i
  same_words i h = front_part ws ws' (node_words n) nodes (i * 12) 12 (omega arith) cl.room

  pub front_decode : decode ws' ks' n ≡ decode ws ks n
  front_decode =
      decode_same ws' ws ks' ks' n
      (λ i h. node_words_lem ws' ks' i ∙ (ap (λ (s : List ℕ). cell_node ks' (cell_in s)) (same_words i h) ∙ sym (node_words_lem ws ks' i)))
      ∙ decode_kept c ks ks' same_kids ws n cl

  pub front_clean : node_words n ≤ length ws' → Clean ws' ks' c n
  front_clean room = record {
    room = room;
    each = λ i h.
        clean_words ws' ks' c i ∙ (ap (λ (s : List ℕ). cell_clean ks' c (cell_in s)) (same_words i h)
        ∙ (sym (clean_words ws ks' c i) ∙ (clean_kept c ks ks' same_kids ws c n (omega arith) cl).each i h));
  }
