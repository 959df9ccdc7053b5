-- Laws of nodes and children in words that no proof of a function needs. Words that agree on the children made give a node of the code the same meaning, and it
-- fits as it did. A node that is read and put back changes nothing. And which nodes are children, and of which parents, does not depend on the children's words.
-- Assumes nothing.
use mathlib.Core.Path.{◌≡◌, refl, ap, sym, ◌∙◌, subst⁻¹}
use mathlib.Core.Bool.{Bool, true, false}
use mathlib.Core.Option.{Option, none}
use mathlib.Core.List.{List, map, map-map}
use Prim.Native.Nat.{ℕ, suc, ◌+◌, ◌*◌, ◌<◌, ◌≤◌}
use native.Mathlib.Omega.{arith}
use lib.Dec.{ltb, leb}
use lib.ListN.{length, get_or, drop, length-drop, get_or-map}
use lib.Seq.{length-take-le}
use borrow.Author.Tests.{ltb-true, le-leb}
use borrow.Rule.Slice.PartMut.{put_same}
use Rattle.scope.specs.Base.{from, or_else}
use Rattle.scope.specs.Types.{Ty}
use Rattle.scope.specs.Nodes as nodes
use Rattle.scope.specs.Sound as sound
use Rattle.layout.specs.Words.{node_words, slot_at, slots, node_at, decode}
use Rattle.layout.specs.Meaning.{cell_in, words_of, cell_words, cell_means, paste_at, read_at, put_at, kind_cell, kind_means, node_means, kind_fits, node_fits, parent_of, Clean, Kept}
use Rattle.layout.specs.declared.Cell.{Cell}
use Rattle.layout.specs.declared.Kind.{Kind}
use Rattle.layout.specs.declared.TypeState.TheVariants.{Known, Unknown, InferenceFailed}
use Rattle.layout.specs.declared.TypeNode.{TypeNode}
use Rattle.layout.specs.declared.TypeNode.TheVariants.{Root, Child}
use Rattle.layout.proofs.Lists.{and_both, and_right, length_from, same_from}
use Rattle.layout.proofs.Cells.{retag, field_word, words_back, node_words_lem, clean_words, says}
use Rattle.layout.proofs.Laws.{past, decode_get}
use Rattle.layout.proofs.ChildLaws.{kind_room}
use Rattle.layout.proofs.LinkLaws.{child_field, read_root}

-- words that agree on the children made

module _ (c : ℕ) (ks ks' : List ℕ) (kept : Kept c ks ks') where
  slots_kept : (i n : ℕ) → i + n ≤ c → slots ks' i n ≡ slots ks i n
  slots_kept i n h = same_from (slot_at ks') (slot_at ks) i n (λ j a b. kept.same j (omega arith))

  pub kind_kept : (k : Kind) → kind_fits ks c k ≡ true → kind_means ks' k ≡ kind_means ks k
  unfolding kind_means
  kind_kept k h = rw (slots_kept k.first k.count (kind_room ks c k h))

  pub kind_fits_kept : (c' : ℕ) (k : Kind) → c ≤ c' → kind_fits ks c k ≡ true → kind_fits ks' c' k ≡ true
  unfolding kind_fits
  kind_fits_kept c' k g h =
      let r : k.first + k.count ≤ c = kind_room ks c k h in
      and_both (leb (k.first + k.count) c') (sound.names_clean (kind_cell ks' k)) (le-leb (k.first + k.count) c' (omega arith))
      (rw (slots_kept k.first k.count r) (and_right (leb (k.first + k.count) c) (sound.names_clean (kind_cell ks k)) h))

  pub node_kept : (v : TypeNode) → node_fits ks c v ≡ true → node_means ks' v ≡ node_means ks v
  node_kept (Root (Known i k) z) h = rw (kind_kept k h)
  node_kept (Root (Unknown s) z) h = refl
  node_kept (Root InferenceFailed z) h = refl
  node_kept (Child t) h = refl

  pub fits_kept : (c' : ℕ) (v : TypeNode) → c ≤ c' → node_fits ks c v ≡ true → node_fits ks' c' v ≡ true
  fits_kept c' (Root (Known i k) z) g h = kind_fits_kept c' k g h
  fits_kept c' (Root (Unknown s) z) g h = refl
  fits_kept c' (Root InferenceFailed z) g h = refl
  fits_kept c' (Child t) g h = refl

-- what the code reads, put back, changes nothing

module _ (ws ks : List ℕ) (c n : ℕ) (cl : Clean ws ks c n) where
  back_by : (t : Bool) (i : ℕ) → ltb i n ≡ t → put_at ws n i (read_at ws n i) ≡ ws
  unfolding put_at read_at
  back_by true i t =
      let h : i < n = ltb-true i n t in
      let r : node_words n ≤ length ws = cl.room in
      let k : length (cell_words ws i) ≡ 12 = length-take-le 12 (drop (i * 12) ws) (simp length-drop (omega arith)) in
      let s = says ks c (cell_in (cell_words ws i)) (sym (clean_words ws ks c i) ∙ cl.each i h) in
      rw t (ap (λ (x : Cell). paste_at ws i (words_of x)) s.back ∙ (ap (paste_at ws i) (words_back (cell_words ws i) k) ∙ put_same (i * 12) 12 ws))
  back_by false i t = rw t refl

  pub put_read : (i : ℕ) → put_at ws n i (read_at ws n i) ≡ ws
  put_read i = back_by (ltb i n) i refl

-- the parents' part of a store does not depend on the children's words

bare_retag : (ks ks' : List ℕ) (x : Cell) → sound.node_in (cell_means ks (retag 0 x)) ≡ sound.node_in (cell_means ks' (retag 0 x))
unfolding sound.node_in
bare_retag ks ks' x = rw (length_from (slot_at ks) 0 x.count, length_from (slot_at ks') 0 x.count)

bare_kids : (ks ks' : List ℕ) (x : Cell) → x.tag ≡ 0 → sound.node_in (cell_means ks x) ≡ sound.node_in (cell_means ks' x)
bare_kids ks ks' x =
    λ z. subst⁻¹ (λ (t : ℕ). sound.node_in (cell_means ks (retag t x)) ≡ sound.node_in (cell_means ks' (retag t x))) z (bare_retag ks ks' x)

parent_root : (v : nodes.Node) → nodes.is_root v ≡ true → parent_of v ≡ none
parent_root (nodes.Root st z) e = refl
parent_root (nodes.Child t) e = cc

parent_at : (ws ks ks' : List ℕ) (i : ℕ) → parent_of (node_at ws ks i) ≡ parent_of (node_at ws ks' i)
parent_at ws ks ks' i = go (read_at ws (suc i) i) refl
  where
    none_at : (js : List ℕ) → nodes.is_root (nodes.at (decode ws js (suc i)) i) ≡ true → parent_of (node_at ws js i) ≡ none
    none_at js h = ap parent_of (sym (decode_get ws js (suc i) i (omega arith))) ∙ parent_root (nodes.at (decode ws js (suc i)) i) h

    go : (v : TypeNode) → read_at ws (suc i) i ≡ v → parent_of (node_at ws ks i) ≡ parent_of (node_at ws ks' i)
    go (Root st z) e = none_at ks (read_root ws (suc i) i st z e ks) ∙ sym (none_at ks' (read_root ws (suc i) i st z e ks'))
    go (Child t) e =
        let x = cell_in (cell_words ws i) in
        let z : x.tag ≡ 0 = field_word ws i 0 (omega arith) ∙ child_field ws (suc i) i t e in
        ap parent_of (node_words_lem ws ks i)
        ∙ (ap (λ o. parent_of (or_else o past)) (bare_kids ks ks' x z) ∙ ap parent_of (sym (node_words_lem ws ks' i)))

pub decode_parents : (ws ks ks' : List ℕ) (n : ℕ) → map parent_of (decode ws ks n) ≡ map parent_of (decode ws ks' n)
unfolding decode
decode_parents ws ks ks' n =
    map-map parent_of (node_at ws ks) (from 0 n)
    ∙ (same_from (λ i. parent_of (node_at ws ks i)) (λ i. parent_of (node_at ws ks' i)) 0 n (λ i a b. parent_at ws ks ks' i)
    ∙ sym (map-map parent_of (node_at ws ks') (from 0 n)))

pub parent_same : (ws ks ks' : List ℕ) (n i : ℕ) → parent_of (nodes.at (decode ws ks n) i) ≡ parent_of (nodes.at (decode ws ks' n) i)
parent_same ws ks ks' n i =
    sym (get_or-map parent_of (decode ws ks n) i past)
    ∙ (ap (λ (l : List (Option Ty)). get_or l i none) (decode_parents ws ks ks' n) ∙ get_or-map parent_of (decode ws ks' n) i past)
