-- Which nodes are children, and of which parents, is said by the node words alone: a child's cell has no children, and any other cell is a root's
-- whatever its children are. So what the code reads is a child exactly where the store has that child.
-- Assumes nothing.
use mathlib.Core.Path.{◌≡◌, refl, ap, sym, ◌∙◌, subst⁻¹}
use mathlib.Core.Bool.{Bool, true, false, ◌&&◌}
use mathlib.Core.Option.{none, some}
use mathlib.Core.List.{List, []}
use Prim.Native.Nat.{ℕ, ◌+◌, ◌*◌, ◌<◌, ◌≤◌}
use native.Mathlib.Omega.{arith}
use lib.Dec.{eqb, ltb, leb}
use lib.ListN.{length, get_or, drop, set, length-drop}
use lib.Seq.{length-take-le}
use borrow.Author.Tests.{eqb-true, eqb-false, ltb-true, ltb-false, lt-ltb, le-leb}
use Rattle.scope.specs.Base.{pick, is_some, or_else}
use Rattle.scope.specs.Types.{ty_of}
use Rattle.scope.specs.Nodes as nodes
use Rattle.scope.specs.Sound.{node_in, kind_bare, names_clean, kind_in}
use Rattle.types.specs.declared.«Type».{«Type»}
use borrow.Rule.Slice.PartMut.{set_mid_at}
use Rattle.layout.specs.Words.{NODE_WORDS, node_words, node_field, slot_at, first_at, count_at, cell_at, node_clean, decode}
use Rattle.layout.specs.Meaning.{CHILD_TAG, cell_in, words_of, cell_of, paste_at, node_of, cell_words, cell_means, read_at, put_at, node_means, Clean, Linked}
use Rattle.layout.specs.declared.Cell.{Cell}
use Rattle.layout.specs.declared.TypeState.{TypeState}
use Rattle.layout.specs.declared.TypeState.TheVariants.{Known, Unknown, InferenceFailed}
use Rattle.layout.specs.declared.TypeNode.{TypeNode}
use Rattle.layout.specs.declared.TypeNode.TheVariants.{Root, Child}
use Rattle.layout.proofs.Lists.{and_both, and_right, length_from}
use Rattle.layout.proofs.Cells.{retag, cell_node, cell_first, Says, field_word, words_back, node_words_lem, cell_words_lem, says}
use Rattle.layout.proofs.Laws.{past, decode_get, decode_past, words_here, words_there, length_put}

-- a child's cell says the same whatever the children's words are

bare_retag : (ks ks' : List ℕ) (x : Cell) → node_in (cell_means ks (retag 0 x)) ≡ node_in (cell_means ks' (retag 0 x))
unfolding node_in
bare_retag ks ks' x = rw (length_from (slot_at ks) 0 x.count, length_from (slot_at ks') 0 x.count)

bare_kids : (ks ks' : List ℕ) (x : Cell) → x.tag ≡ 0 → node_in (cell_means ks x) ≡ node_in (cell_means ks' x)
bare_kids ks ks' x =
    λ z. subst⁻¹ (λ (t : ℕ). node_in (cell_means ks (retag t x)) ≡ node_in (cell_means ks' (retag t x))) z (bare_retag ks ks' x)

-- any other cell is a root's
root_by : (a b p q r : Bool) (u v w : nodes.State) (z : ℕ)
    → nodes.is_root (or_else (pick a (pick p (some (nodes.Root u z)) none) (pick b (pick q (some (nodes.Root v z)) none) (pick r (some (nodes.Root w z)) none))) past) ≡ true
root_by true b true q r u v w z = refl
root_by true b false q r u v w z = refl
root_by false true p true r u v w z = refl
root_by false true p false r u v w z = refl
root_by false false p q true u v w z = refl
root_by false false p q false u v w z = refl

root_cell : (ks : List ℕ) (x : Cell) → eqb x.tag 0 ≡ false → nodes.is_root (cell_node ks x) ≡ true
unfolding node_in
root_cell ks x e =
    let y = cell_means ks x in
    rw e (root_by (eqb x.tag 1) (eqb x.tag 2) (kind_bare y) (eqb y.link 0 && kind_bare y)
    (eqb x.tag 3 && (eqb y.link 0 && (leb x.inv 1 && (leb x.dual 1 && names_clean y))))
    (nodes.Unknown y.link) nodes.InferenceFailed (nodes.Known (eqb x.inv 1) (kind_in y)) x.size)

-- what the code reads in a cell tells which it is

not_child : (p q : Bool) (a b d : TypeState) (z : ℕ) (t : «Type») → pick p (Root a z) (pick q (Root b z) (Root d z)) ≡ Child t
    → ◌≡◌ {A = Bool} false true
not_child true q a b d z t e = cc
not_child false true a b d z t e = cc
not_child false false a b d z t e = cc

child_tag_by : (b : Bool) (x : Cell) (t : «Type») → eqb x.tag 0 ≡ b → node_of x ≡ Child t → eqb x.tag 0 ≡ true
unfolding node_of
child_tag_by true x t q e = q
child_tag_by false x t q e = q ∙ not_child (eqb x.tag 1) (eqb x.tag 2) _ _ _ _ t (rw q at e)

child_tag : (x : Cell) (t : «Type») → node_of x ≡ Child t → x.tag ≡ 0
child_tag x t e = eqb-true x.tag 0 (child_tag_by (eqb x.tag 0) x t refl e)

root_tag_by : (b : Bool) (x : Cell) (st : TypeState) (z : ℕ) → eqb x.tag 0 ≡ b → node_of x ≡ Root st z → eqb x.tag 0 ≡ false
unfolding node_of
root_tag_by true x st z q e = let f = rw q at e in q ∙ cc f
root_tag_by false x st z q e = q

root_tag : (x : Cell) (st : TypeState) (z : ℕ) → node_of x ≡ Root st z → eqb x.tag 0 ≡ false
root_tag x st z e = root_tag_by (eqb x.tag 0) x st z refl e

-- what the code reads at i

module _ (ws : List ℕ) (n : ℕ) (i : ℕ) where
  abbrev here : Cell
  here = cell_in (cell_words ws i)

  in_by : (b : Bool) (t : «Type») → ltb i n ≡ b → read_at ws n i ≡ Child t → ltb i n ≡ true
  unfolding read_at
  in_by true t q e = q
  in_by false t q e = let f = rw q at e in q ∙ cc f

  -- a child is one of the n nodes
  pub child_below : (t : «Type») → read_at ws n i ≡ Child t → i < n
  child_below t e = ltb-true i n (in_by (ltb i n) t refl e)

  child_cell : (t : «Type») → read_at ws n i ≡ Child t → node_of here ≡ Child t
  unfolding read_at
  child_cell t e = rw (in_by (ltb i n) t refl e) at e

  pub child_field : (t : «Type») → read_at ws n i ≡ Child t → node_field ws i 0 ≡ CHILD_TAG
  child_field t e = sym (field_word ws i 0 (omega arith)) ∙ child_tag here t (child_cell t e)

  module _ (l : Linked ws n) (t : «Type») (e : read_at ws n i ≡ Child t) where
    bare_some : (ks : List ℕ) → is_some (node_in (cell_means ks here)) ≡ true
    bare_some ks =
        let z : here.tag ≡ 0 = child_tag here t (child_cell t e) in
        ap is_some (bare_kids ks [] here z ∙ ap node_in (sym (cell_words_lem ws [] i))) ∙ l.bare i (child_below t e) (child_field t e)

    bare_says : (ks : List ℕ) → Says ks (cell_first here + here.count) here
    bare_says ks =
        let c : ℕ = cell_first here + here.count in
        says ks c here (and_both (leb c c) (is_some (node_in (cell_means ks here))) (le-leb c c (omega arith)) (bare_some ks))

    -- the store has the child that the code reads, whatever the children's words are
    pub read_child : (ks : List ℕ) → nodes.at (decode ws ks n) i ≡ nodes.Child (ty_of t.0)
    read_child ks =
        decode_get ws ks n i (child_below t e)
        ∙ (node_words_lem ws ks i ∙ (ap (λ o. or_else o past) (bare_says ks).node ∙ ap (node_means ks) (child_cell t e)))

    child_words : cell_words ws i ≡ words_of (cell_of (Child t))
    child_words =
        let h : i < n = child_below t e in
        let r : node_words n ≤ length ws = l.room in
        let k : length (cell_words ws i) ≡ 12 = length-take-le 12 (drop (i * 12) ws) (simp length-drop (omega arith)) in
        sym (words_back (cell_words ws i) k) ∙ ap words_of (sym (bare_says []).back ∙ ap cell_of (child_cell t e))

    -- another parent for a child changes one word
    pub link_put : (u : «Type») → put_at ws n i (Child u) ≡ set ws (i * NODE_WORDS + 1) u.0
    unfolding put_at
    link_put u =
        let h : i < n = child_below t e in
        let r : node_words n ≤ length ws = l.room in
        let k : length (cell_words ws i) ≡ 12 = length-take-le 12 (drop (i * 12) ws) (simp length-drop (omega arith)) in
        let w : words_of (cell_of (Child u)) ≡ set (cell_words ws i) 1 u.0 = ap (λ (s : List ℕ). set s 1 u.0) (sym child_words) in
        rw (lt-ltb i n h) (ap (paste_at ws i) w ∙ set_mid_at (i * 12) 12 1 ws u.0 (omega arith))

  root_read : (b : Bool) (st : TypeState) (z : ℕ) → ltb i n ≡ b → read_at ws n i ≡ Root st z → (ks : List ℕ) → nodes.is_root (nodes.at (decode ws ks n) i) ≡ true
  unfolding read_at
  root_read true st z q e ks =
      rw (decode_get ws ks n i (ltb-true i n q), node_words_lem ws ks i) (root_cell ks here (root_tag here st z (rw q at e)))
  root_read false st z q e ks = rw (decode_past ws ks n i (ltb-false i n q)) refl

  -- the store has a root where the code reads one
  pub read_root : (st : TypeState) (z : ℕ) → read_at ws n i ≡ Root st z → (ks : List ℕ) → nodes.is_root (nodes.at (decode ws ks n) i) ≡ true
  read_root st z e = root_read (ltb i n) st z refl e

-- clean words are linked, and stay so

pub clean_linked : (ws ks : List ℕ) (c n : ℕ) → Clean ws ks c n → Linked ws n
unfolding node_clean
clean_linked ws ks c n cl = record {
  room = cl.room;
  bare = λ i h z.
      let x = cell_in (cell_words ws i) in
      let t : x.tag ≡ 0 = field_word ws i 0 (omega arith) ∙ z in
      ap is_some (ap node_in (cell_words_lem ws [] i) ∙ (bare_kids [] ks x t ∙ ap node_in (sym (cell_words_lem ws ks i))))
      ∙ and_right (leb (first_at ws i + count_at ws i) c) (is_some (node_in (cell_at ws ks i))) (cl.each i h);
}

bare_put : (v : TypeNode) → (cell_of v).tag ≡ 0 → is_some (node_in (cell_means [] (cell_of v))) ≡ true
unfolding node_in
bare_put (Child t) e = refl
bare_put (Root (Unknown s) z) e = absurd (omega arith)
bare_put (Root InferenceFailed z) e = absurd (omega arith)
bare_put (Root (Known i k) z) e = absurd (omega arith)

module _ (ws : List ℕ) (n : ℕ) (l : Linked ws n) (i : ℕ) (v : TypeNode) where
  bare_by : (b : Bool) (j : ℕ) → eqb j i ≡ b → j < n → node_field (put_at ws n i v) j 0 ≡ 0 → is_some (node_in (cell_at (put_at ws n i v) [] j)) ≡ true
  bare_by true j q h z =
      let y : j ≡ i = eqb-true j i q in
      let w = words_here ws n l.room i v (omega arith) in
      let t : (cell_of v).tag ≡ 0 =
      ap (λ (s : List ℕ). get_or s 0 0) (sym w) ∙ (field_word (put_at ws n i v) i 0 (omega arith) ∙ (ap (λ (k : ℕ). node_field (put_at ws n i v) k 0) (sym y) ∙ z)) in
      rw y (ap is_some (ap node_in (cell_words_lem (put_at ws n i v) [] i ∙ ap (λ (s : List ℕ). cell_means [] (cell_in s)) w)) ∙ bare_put v t)
  bare_by false j q h z =
      let w = words_there ws n l.room i v j (eqb-false j i q) in
      let f : node_field ws j 0 ≡ 0 =
      sym (field_word ws j 0 (omega arith)) ∙ (ap (λ (s : List ℕ). get_or s 0 0) (sym w) ∙ (field_word (put_at ws n i v) j 0 (omega arith) ∙ z)) in
      ap is_some (ap node_in (cell_words_lem (put_at ws n i v) [] j ∙ (ap (λ (s : List ℕ). cell_means [] (cell_in s)) w ∙ sym (cell_words_lem ws [] j)))) ∙ l.bare j h f

  pub linked_put : Linked (put_at ws n i v) n
  linked_put = record { room = rw (length_put ws n l.room i v) l.room; bare = λ j. bare_by (eqb j i) j refl }
