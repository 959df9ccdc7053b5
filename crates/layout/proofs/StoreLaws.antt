-- The laws of a store in three slices: its header is read back as written, clean slices have clean nodes, and a store that has grown without
-- touching unused words is clean again. Zeros from one place on are zeros from a later one on.
-- Assumes nothing.
use mathlib.Core.Path.{◌≡◌, refl, ap, sym, ◌∙◌}
use mathlib.Core.Bool.{Bool, true, false, ◌&&◌}
use mathlib.Core.List.{List, [], ◌∷◌}
use Prim.Native.Nat.{ℕ, zero, suc, ◌+◌, ◌-◌, ◌*◌, ◌/◌, ◌%◌, ◌≤◌}
use native.Mathlib.Omega.{arith}
use lib.Dec.{eqb, leb}
use lib.ListN.{length, get_or, take, drop, length-drop}
use lib.Seq.{drop-drop, take-nil}
use borrow.Author.Tests.{leb-true, le-leb, not-true}
use Rattle.scope.specs.Limits.{NONE}
use Rattle.scope.specs.Sound.{zeros, reads}
use Rattle.layout.specs.Words as words
use Rattle.layout.specs.Words.{HEAD_WORDS, node_words, child_words, node_clean, decode, nodes_made, children_made, node_room, child_room, store_in}
use Rattle.layout.specs.Words.{long_enough, between, unused_zero, nodes_clean, clean, lent_of}
use Rattle.layout.specs.Meaning.{HALF, remembered_of, remembered_word, remembered_means, remembered_fits, header_in, put_header, store_means, Clean, Lies, Grown}
use Rattle.layout.specs.declared.Header.{Header}
use Rattle.layout.specs.Meaning.{Remembered}
use Rattle.std.specs.Prelude.{Some, None}
use Rattle.layout.proofs.Lists.{and_both, and_left, and_right}
use Rattle.scope.proofs.Sizes.{all_from, from_all}

-- the header

means_by : (b : Bool) (w : ℕ) → eqb w NONE ≡ b → remembered_means (remembered_of w) ≡ words.remembered w
means_by true w q = rw q refl
means_by false w q = rw q refl

pub remembered_means_lem : (w : ℕ) → remembered_means (remembered_of w) ≡ words.remembered w
remembered_means_lem w = means_by (eqb w NONE) w refl

-- a store is its header and its nodes
pub store_header : (h ws ks : List ℕ) → store_in h ws ks ≡ store_means (header_in h) (decode ws ks (nodes_made h))
unfolding store_in
store_header h ws ks = rw (remembered_means_lem (get_or h 4 0), remembered_means_lem (get_or h 5 0))

remembered_back : (r : Remembered) → remembered_fits r ≡ true → remembered_of (remembered_word r) ≡ r
remembered_back (Some t) e = rw (not-true (eqb t.0 NONE) e)
remembered_back None e = refl

halves : (r : ℕ) → r % HALF + r / HALF * 4294967296 ≡ r
halves r = omega arith

module _ (h : List ℕ) (x : Header) where
  -- the header is read back as written
  pub header_put : remembered_fits x.error ≡ true → remembered_fits x.nil ≡ true → header_in (put_header h x) ≡ x
  unfolding put_header
  header_put e n = rw (remembered_back x.error e, remembered_back x.nil n, halves x.reports)

  pub length_put_header : HEAD_WORDS ≤ length h → length (put_header h x) ≡ length h
  unfolding put_header
  length_put_header l = simp (length-drop) (omega arith)

  -- words past the header stay
  pub tail_put_header : drop HEAD_WORDS (put_header h x) ≡ drop HEAD_WORDS h
  unfolding put_header
  tail_put_header = refl

  pub store_put : remembered_fits x.error ≡ true → remembered_fits x.nil ≡ true → (ws ks : List ℕ)
      → store_in (put_header h x) ws ks ≡ store_means x (decode ws ks x.nodes)
  store_put e n ws ks =
      store_header (put_header h x) ws ks
      ∙ ap (λ (y : Header). store_means y (decode ws ks y.nodes)) (header_put e n)

-- clean slices

module _ (h ws ks : List ℕ) where
  pub lies : long_enough h ws ks ≡ true → Lies h ws ks
  unfolding long_enough
  lies e =
      let a : Bool = leb HEAD_WORDS (length h) in
      let b : Bool = leb (nodes_made h) (node_room h) in
      let c : Bool = leb (children_made h) (child_room h) in
      let d : Bool = leb (node_words (node_room h)) (length ws) in
      let f : Bool = leb (child_words (child_room h)) (length ks) in
      let p : (b && (c && (d && f))) ≡ true = and_right a (b && (c && (d && f))) e in
      let q : (c && (d && f)) ≡ true = and_right b (c && (d && f)) p in
      let r : (d && f) ≡ true = and_right c (d && f) q in
      record {
        head = leb-true HEAD_WORDS (length h) (and_left a (b && (c && (d && f))) e);
        nodes = leb-true (nodes_made h) (node_room h) (and_left b (c && (d && f)) p);
        children = leb-true (children_made h) (child_room h) (and_left c (d && f) q);
        node_slots = leb-true (node_words (node_room h)) (length ws) (and_left d f r);
        child_slots = leb-true (child_words (child_room h)) (length ks) (and_right d f r);
      }

  pub long_enough_lem : Lies h ws ks → long_enough h ws ks ≡ true
  unfolding long_enough
  long_enough_lem l = rw (
    le-leb HEAD_WORDS (length h) l.head,
    le-leb (nodes_made h) (node_room h) l.nodes,
    le-leb (children_made h) (child_room h) l.children,
    le-leb (node_words (node_room h)) (length ws) l.node_slots,
    le-leb (child_words (child_room h)) (length ks) l.child_slots,
  )

  clean_parts : clean h ws ks ≡ true → (unused_zero h ws ks && nodes_clean h ws ks) ≡ true
  unfolding clean
  clean_parts e = and_right (long_enough h ws ks) (unused_zero h ws ks && nodes_clean h ws ks) e

  pub clean_lies : clean h ws ks ≡ true → Lies h ws ks
  unfolding clean
  clean_lies e = lies (and_left (long_enough h ws ks) (unused_zero h ws ks && nodes_clean h ws ks) e)

  pub clean_unused : clean h ws ks ≡ true → unused_zero h ws ks ≡ true
  clean_unused e = and_left (unused_zero h ws ks) (nodes_clean h ws ks) (clean_parts e)

  pub clean_nodes : clean h ws ks ≡ true → Clean ws ks (children_made h) (nodes_made h)
  unfolding nodes_clean
  clean_nodes e =
      let l : Lies h ws ks = clean_lies e in
      record {
        room = omega (arith, l.nodes, l.node_slots);
        each = λ i g.
            from_all (node_clean ws ks (children_made h)) 0 (nodes_made h) (and_right (unused_zero h ws ks) (nodes_clean h ws ks) (clean_parts e)) i (omega arith) (omega arith);
      }

  pub clean_of : Lies h ws ks → unused_zero h ws ks ≡ true → Clean ws ks (children_made h) (nodes_made h) → clean h ws ks ≡ true
  unfolding clean nodes_clean
  clean_of l u c =
      and_both (long_enough h ws ks) (unused_zero h ws ks && nodes_clean h ws ks) (long_enough_lem l)
      (and_both (unused_zero h ws ks) (nodes_clean h ws ks) u
      (all_from (node_clean ws ks (children_made h)) 0 (nodes_made h) (λ i a b. c.each i (omega arith))))

  pub lent_clean : clean h ws ks ≡ true → lent_of h ws ks ≡ reads (store_in h ws ks)
  unfolding lent_of
  lent_clean e = rw e

-- unused words

drop_take : (m n : ℕ) (l : List ℕ) → drop m (take n l) ≡ take (n - m) (drop m l)
drop_take zero n l = let z : n - zero ≡ n = omega arith in rw z
drop_take (suc m) zero l = let z : zero - suc m ≡ zero = omega arith in rw z
drop_take (suc m) (suc n) [] = sym (take-nil (suc n - suc m))
drop_take (suc m) (suc n) (x ∷ l) = let z : suc n - suc m ≡ n - m = omega arith in rw z (drop_take m n l)

zeros_drop : (m : ℕ) (l : List ℕ) → zeros l ≡ true → zeros (drop m l) ≡ true
zeros_drop zero l e = e
zeros_drop (suc m) [] e = refl
zeros_drop (suc m) (x ∷ l) e = zeros_drop m l (and_right (eqb x 0) (zeros l) e)

zeros_later : (a b e : ℕ) (xs : List ℕ) → a ≤ b → zeros (between xs a e) ≡ true → zeros (between xs b e) ≡ true
zeros_later a b e xs h z =
    let p : a + (b - a) ≡ b = omega arith in
    let q : e - a - (b - a) ≡ e - b = omega arith in
    let r : drop (b - a) (between xs a e) ≡ between xs b e = drop_take (b - a) (e - a) (drop a xs) ∙ rw (q, drop-drop (b - a) a xs, p) in
    ap zeros (sym r) ∙ zeros_drop (b - a) (between xs a e) z

pub unused_grown : (h ws ks h' ws' ks' : List ℕ) → Grown h ws ks h' ws' ks' → unused_zero h ws ks ≡ true → unused_zero h' ws' ks' ≡ true
unfolding unused_zero
unused_grown h ws ks h' ws' ks' g e =
    let a : Bool = zeros (between ws (node_words (nodes_made h)) (node_words (node_room h))) in
    let b : Bool = zeros (between ks (child_words (children_made h)) (child_words (child_room h))) in
    and_both (zeros (between ws' (node_words (nodes_made h')) (node_words (node_room h')))) (zeros (between ks' (child_words (children_made h')) (child_words (child_room h'))))
    (rw (g.node_rooms, g.node_tail)
    (zeros_later (node_words (nodes_made h)) (node_words (nodes_made h')) (node_words (node_room h)) ws (omega (arith, g.nodes)) (and_left a b e)))
    (rw (g.child_rooms, g.child_tail)
    (zeros_later (child_words (children_made h)) (child_words (children_made h')) (child_words (child_room h)) ks (omega (arith, g.children)) (and_right a b e)))
