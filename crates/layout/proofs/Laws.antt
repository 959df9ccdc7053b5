-- The laws of nodes in words: what callers use in place of the encoding. Reading gives the node that the store has there, putting changes that node
-- alone, putting past the last appends, and clean words stay clean. Each follows from what the words at one place are after a put.
-- Assumes nothing.
use mathlib.Core.Path.{◌≡◌, refl, ap, sym, ◌∙◌}
use mathlib.Core.Bool.{Bool, true, false}
use mathlib.Core.List.{List, [], ◌∷◌, ◌++◌}
use Prim.Native.Nat.{ℕ, ◌+◌, ◌*◌, ◌<◌, ◌≤◌}
use native.Mathlib.Omega.{arith}
use native.Mathlib.Numerals.{add-one}
use lib.Dec.{eqb, ltb}
use lib.ListN.{length, drop, set, length-set, get_or-eq_default}
use lib.Seq.{get_or-set_same, get_or-set_other, ext_get_or}
use borrow.Author.Tests.{lt-ltb, le-ltb, ltb-true, ltb-false, eqb-true, eqb-false}
use Rattle.scope.specs.Base.{or_else}
use Rattle.scope.specs.Limits.{NONE}
use Rattle.scope.specs.Nodes as nodes
use Rattle.layout.specs.Words.{node_words, node_at, node_clean, decode}
use Rattle.layout.specs.Meaning.{cell_in, words_of, cell_of, cell_words, read_at, put_at, node_means, node_fits, Clean}
use Rattle.layout.specs.declared.TypeNode.{TypeNode}
use Rattle.layout.proofs.Lists.{part_here, part_other, drop_past, length_part, length_from, get_from, map_snoc, same_from}
use Rattle.layout.proofs.Cells.{cell_node, cell_clean, node_words_lem, clean_words, says, cell_says, cell_clean_lem}

-- what stands past the last node
abbrev pub past : nodes.Node
past = nodes.Root (nodes.Unknown NONE) 0

-- get

pub length_decode : (ws ks : List ℕ) (n : ℕ) → length (decode ws ks n) ≡ n
unfolding decode
length_decode ws ks n = length_from (node_at ws ks) 0 n

pub decode_get : (ws ks : List ℕ) (n i : ℕ) → i < n → nodes.at (decode ws ks n) i ≡ node_at ws ks i
unfolding decode
decode_get ws ks n i h = get_from (node_at ws ks) 0 n i past h ∙ ap (node_at ws ks) (omega arith)

pub decode_past : (ws ks : List ℕ) (n i : ℕ) → n ≤ i → nodes.at (decode ws ks n) i ≡ past
decode_past ws ks n i h = get_or-eq_default (decode ws ks n) past (rw length_decode h)

-- two stores with the same nodes
pub decode_same : (ws ws' ks ks' : List ℕ) (n : ℕ) → ((i : ℕ) → i < n → node_at ws ks i ≡ node_at ws' ks' i) → decode ws ks n ≡ decode ws' ks' n
unfolding decode
decode_same ws ws' ks ks' n e = same_from (node_at ws ks) (node_at ws' ks') 0 n (λ j a b. e j (omega arith))

-- put: the words at i are the node's, and all others are as they were

module _ (ws : List ℕ) (n : ℕ) (room : node_words n ≤ length ws) (i : ℕ) (v : TypeNode) where
  pub words_here : i < n → cell_words (put_at ws n i v) i ≡ words_of (cell_of v)
  unfolding put_at
  words_here h = rw (lt-ltb i n h) (part_here (i * 12) 12 ws (words_of (cell_of v)) refl (omega arith))

  there_by : (t : Bool) → ltb i n ≡ t → (j : ℕ) → (j ≡ i → ⊥) → cell_words (put_at ws n i v) j ≡ cell_words ws j
  unfolding put_at
  there_by true t j h =
      let l : i < n = ltb-true i n t in
      rw t (part_other (i * 12) 12 (j * 12) ws (words_of (cell_of v)) refl (omega arith) (λ g. omega arith) (λ g. omega arith))
  there_by false t j h = rw t refl

  pub words_there : (j : ℕ) → (j ≡ i → ⊥) → cell_words (put_at ws n i v) j ≡ cell_words ws j
  words_there = there_by (ltb i n) refl

  tail_by : (t : Bool) → ltb i n ≡ t → drop (node_words n) (put_at ws n i v) ≡ drop (node_words n) ws
  unfolding put_at
  tail_by true t =
      let l : i < n = ltb-true i n t in
      rw t (drop_past (i * 12) 12 ws (words_of (cell_of v)) refl (omega arith) (n * 12) (omega arith))
  tail_by false t = rw t refl

  -- words past the nodes stay
  pub tail_put : drop (node_words n) (put_at ws n i v) ≡ drop (node_words n) ws
  tail_put = tail_by (ltb i n) refl

  length_by : (t : Bool) → ltb i n ≡ t → length (put_at ws n i v) ≡ length ws
  unfolding put_at
  length_by true t =
      let l : i < n = ltb-true i n t in
      rw t (length_part (i * 12) 12 ws (words_of (cell_of v)) refl (omega arith))
  length_by false t = rw t refl

  pub length_put : length (put_at ws n i v) ≡ length ws
  length_put = length_by (ltb i n) refl

  pub put_past : n ≤ i → put_at ws n i v ≡ ws
  unfolding put_at
  put_past h = rw (le-ltb i n h)

  module _ (ks : List ℕ) (c : ℕ) (fits : node_fits ks c v ≡ true) where
    node_here : i < n → node_at (put_at ws n i v) ks i ≡ node_means ks v
    node_here h =
        node_words_lem (put_at ws n i v) ks i ∙ (ap (λ (s : List ℕ). cell_node ks (cell_in s)) (words_here h)
        ∙ ap (λ o. or_else o past) (cell_says ks c v fits))

    node_there : (j : ℕ) → (j ≡ i → ⊥) → node_at (put_at ws n i v) ks j ≡ node_at ws ks j
    node_there j h =
        node_words_lem (put_at ws n i v) ks j ∙ (ap (λ (s : List ℕ). cell_node ks (cell_in s)) (words_there j h) ∙ sym (node_words_lem ws ks j))

    clean_here : i < n → node_clean (put_at ws n i v) ks c i ≡ true
    clean_here h =
        clean_words (put_at ws n i v) ks c i ∙ (ap (λ (s : List ℕ). cell_clean ks c (cell_in s)) (words_here h) ∙ cell_clean_lem ks c v fits)

    clean_there : (j : ℕ) → (j ≡ i → ⊥) → node_clean (put_at ws n i v) ks c j ≡ node_clean ws ks c j
    clean_there j h =
        clean_words (put_at ws n i v) ks c j ∙ (ap (λ (s : List ℕ). cell_clean ks c (cell_in s)) (words_there j h) ∙ sym (clean_words ws ks c j))

    clean_by : (t : Bool) (j : ℕ) → eqb j i ≡ t → j < n → ((j ≡ i → ⊥) → node_clean ws ks c j ≡ true) → node_clean (put_at ws n i v) ks c j ≡ true
    clean_by true j q h k = let z : j ≡ i = eqb-true j i q in rw z (clean_here (omega arith))
    clean_by false j q h k = clean_there j (eqb-false j i q) ∙ k (eqb-false j i q)

    get_by : (t : Bool) (j : ℕ) → eqb j i ≡ t → j < n
        → nodes.at (decode (put_at ws n i v) ks n) j ≡ nodes.at (set (decode ws ks n) i (node_means ks v)) j
    get_by true j q h =
        let z : j ≡ i = eqb-true j i q in
        let l : i < n = omega arith in
        rw z (decode_get (put_at ws n i v) ks n i l ∙ (node_here l
        ∙ sym (get_or-set_same (decode ws ks n) i (node_means ks v) past (rw length_decode l))))
    get_by false j q h =
        let z : j ≡ i → ⊥ = eqb-false j i q in
        decode_get (put_at ws n i v) ks n j h ∙ (node_there j z ∙ (sym (decode_get ws ks n j h)
        ∙ sym (get_or-set_other (decode ws ks n) i j (node_means ks v) past z)))

    -- put: node i is the one put, and no other changes
    pub decode_put : decode (put_at ws n i v) ks n ≡ set (decode ws ks n) i (node_means ks v)
    decode_put =
        ext_get_or past (decode (put_at ws n i v) ks n) (set (decode ws ks n) i (node_means ks v))
        (length_decode (put_at ws n i v) ks n ∙ (sym (length_decode ws ks n) ∙ sym (length-set (decode ws ks n) i (node_means ks v))))
        (λ j h. get_by (eqb j i) j refl (rw length_decode at h))

-- what clean words stay clean after: a put, and a put past the last
module _ (ws ks : List ℕ) (c n : ℕ) (cl : Clean ws ks c n) where
  pub clean_put : (i : ℕ) (v : TypeNode) → node_fits ks c v ≡ true → Clean (put_at ws n i v) ks c n
  clean_put i v f = record {
    room = rw (length_put ws n cl.room i v) cl.room;
    each = λ j h. clean_by ws n cl.room i v ks c f (eqb j i) j refl h (λ z. cl.each j h);
  }

  pub clean_push : (v : TypeNode) → node_fits ks c v ≡ true → node_words (n + 1) ≤ length ws → Clean (put_at ws (n + 1) n v) ks c (n + 1)
  clean_push v f room = record {
    room = rw (length_put ws (n + 1) room n v) room;
    each = λ j h. clean_by ws (n + 1) room n v ks c f (eqb j n) j refl h (λ z. cl.each j (omega arith));
  }

  -- what the code reads is the store's node, and may be put back
  read_by : (t : Bool) (i : ℕ) → ltb i n ≡ t → node_means ks (read_at ws n i) ≡ nodes.at (decode ws ks n) i
  unfolding read_at
  read_by true i t =
      let h : i < n = ltb-true i n t in
      let s = says ks c (cell_in (cell_words ws i)) (sym (clean_words ws ks c i) ∙ cl.each i h) in
      rw t (sym (decode_get ws ks n i h ∙ (node_words_lem ws ks i ∙ ap (λ o. or_else o past) s.node)))
  read_by false i t = rw t (sym (decode_past ws ks n i (ltb-false i n t)))

  pub read_node : (i : ℕ) → node_means ks (read_at ws n i) ≡ nodes.at (decode ws ks n) i
  read_node i = read_by (ltb i n) i refl

  fits_by : (t : Bool) (i : ℕ) → ltb i n ≡ t → node_fits ks c (read_at ws n i) ≡ true
  unfolding read_at
  fits_by true i t =
      let h : i < n = ltb-true i n t in
      rw t (says ks c (cell_in (cell_words ws i)) (sym (clean_words ws ks c i) ∙ cl.each i h)).fits
  fits_by false i t = rw t refl

  pub read_fits : (i : ℕ) → node_fits ks c (read_at ws n i) ≡ true
  read_fits i = fits_by (ltb i n) i refl

  -- the same of a node that was read
  pub read_is : {v : TypeNode} (i : ℕ) → v ≡ read_at ws n i → nodes.at (decode ws ks n) i ≡ node_means ks v
  read_is i e = sym (read_node i) ∙ ap (node_means ks) (sym e)

  pub read_is_fit : {v : TypeNode} (i : ℕ) → v ≡ read_at ws n i → node_fits ks c v ≡ true
  read_is_fit i e = ap (node_fits ks c) e ∙ read_fits i

-- push: a put past the last appends
module _ (ws : List ℕ) (n : ℕ) (room : node_words (n + 1) ≤ length ws) (v : TypeNode) (ks : List ℕ) (c : ℕ) (fits : node_fits ks c v ≡ true) where
  pub decode_push : decode (put_at ws (n + 1) n v) ks (n + 1) ≡ decode ws ks n ++ (node_means ks v ∷ [])
  unfolding decode
  decode_push =
      let w : List ℕ = put_at ws (n + 1) n v in
      let e : decode w ks n ≡ decode ws ks n =
      decode_same w ws ks ks n (λ i h. node_there ws (n + 1) room n v ks c fits i (λ z. omega arith)) in
      let l : node_at w ks (0 + n) ≡ node_means ks v = ap (node_at w ks) (omega arith) ∙ node_here ws (n + 1) room n v ks c fits (omega arith) in
      ap (λ (m : ℕ). decode w ks m) (add-one n) ∙ (map_snoc (node_at w ks) 0 n ∙ rw (e, l) refl)
