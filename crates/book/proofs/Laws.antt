-- A place that is written: what is read of a name after `put_name`, that words behind a name don't count for it, and a place whose four parts were written
-- one after the other. Who keeps a state uses `written`, `place_written` and `clean_written`; who frees a place uses Names.
-- Assumes nothing.
use mathlib.Core.Path.{◌≡◌, refl, ap, sym, ◌∙◌}
use mathlib.Core.Bool.{Bool, true, false, ◌&&◌}
use mathlib.Core.List.{List, [], ◌∷◌, ◌++◌}
use mathlib.Core.Option.{some}
use Prim.Native.Nat.{ℕ, zero, suc, ◌+◌, ◌-◌, ◌<◌, ◌≤◌}
use native.Mathlib.Omega.{arith}
use native.Mathlib.Nat.{add-sub_cancel_left}
use lib.Dec.{eqb, leb}
use lib.ListN.{length, get_or, take, drop, length-append, length-drop, get_or-append, get_or-eq_default}
use lib.Seq.{drop-cons, take-append-le, length-take-le, get_or-take, ext_get_or}
use borrow.Author.Tests.{eq-eqb, ne_eqb, le-leb, leb-true, lt-ltb}
use Rattle.scope.specs.Base.{all, from}
use Rattle.scope.specs.Limits.{MAX_STATE_NAME}
use Rattle.scope.specs.Sound.{zeros}
use Rattle.layout.specs.Words.{HEAD_WORDS, node_words, child_words, store_in, between}
use Rattle.layout.specs.Words as words
use Rattle.layout.proofs.Lists.{and_both, length_from, get_from}
use Rattle.book.specs.Words.{BYTES, NAME_WORDS, nodes_from, kids_from, place_words, name_length_in, name_bytes_in, head_in, nodes_in, kids_in, with_room, place_in}
use Rattle.book.specs.Words.{is_byte, name_words_clean, counts_are_room, held_clean, place_clean}
use Rattle.book.specs.Places.{put_part, put_name}
use Rattle.book.proofs.Parts.{put_length, put_here, put_before, put_first, between_take}
use Rattle.book.proofs.Names.{name_is, clean_held}
use Rattle.book.proofs.Search.{bytes_to}
use Rattle.scope.proofs.Sizes.{all_from}

-- a test of each word of a part
pub all_run : (q : ℕ → Bool) (s : List ℕ) (a n : ℕ) → a + n ≤ length s → all q (take n (drop a s)) ≡ all (λ i. q (get_or s i 0)) (from a n)
all_run q s a zero h = refl
all_run q s a (suc n) h = rw (drop-cons s a 0 (omega arith)) (ap (λ (b : Bool). q (get_or s a 0) && b) (all_run q s (suc a) n (omega arith)))

pub all_words : (q : ℕ → Bool) (s : List ℕ) → ((i : ℕ) → i < length s → q (get_or s i 0) ≡ true) → all q s ≡ true
all_words q [] h = refl
all_words q (x ∷ s) h = and_both (q x) (all q s) (h 0 (omega arith)) (all_words q s (λ i l. h (suc i) (omega arith)))

-- bytes of a slice of bytes
pub bytes_all : (s : List ℕ) → ((i : ℕ) → i < length s → get_or s i 0 < BYTES) → all is_byte s ≡ true
bytes_all s h = all_words is_byte s (λ i l. lt-ltb (get_or s i 0) BYTES (h i l))

-- a name's words

module _ (name : List ℕ) (m : ℕ) where
  bytes_length : length (bytes_to name m) ≡ m
  bytes_length = length_from (λ j. get_or name j 0) 0 m

  bytes_at : (i : ℕ) → i < m → get_or (bytes_to name m) i 0 ≡ get_or name i 0
  bytes_at i h =
      let z : 0 + i ≡ i = omega arith in
      get_from (λ j. get_or name j 0) 0 m i 0 h ∙ ap (λ (j : ℕ). get_or name j 0) z

  bytes_back : length name ≤ m → take (length name) (bytes_to name m) ≡ name
  bytes_back h =
      let b = bytes_length in
      let l : length (take (length name) (bytes_to name m)) ≡ length name = length-take-le (length name) (bytes_to name m) (omega arith) in
      ext_get_or 0 (take (length name) (bytes_to name m)) name l
      (λ i k. get_or-take (length name) (bytes_to name m) i 0 (omega arith) ∙ bytes_at i (omega arith))

  module _ (r : List ℕ) where
    written_at : (i : ℕ) → i < m → get_or (length name ∷ (bytes_to name m ++ r)) (suc i) 0 ≡ get_or name i 0
    written_at i h = let b = bytes_length in get_or-append (bytes_to name m) r 0 i (omega arith) ∙ bytes_at i h

    written_name : length name ≤ m → name_bytes_in (length name ∷ (bytes_to name m ++ r)) ≡ name
    written_name h =
        let b = bytes_length in
        name_is (length name ∷ (bytes_to name m ++ r)) ∙ (take-append-le (length name) (bytes_to name m) r (omega arith) ∙ bytes_back h)

    written_length : length (length name ∷ (bytes_to name m ++ r)) ≡ suc (m + length r)
    written_length = let b = bytes_length in let a = length-append (bytes_to name m) r in ap suc (omega arith)

    written_zeros : length name ≤ m → zeros (between (length name ∷ (bytes_to name m ++ r)) (suc (length name)) (suc m)) ≡ true
    written_zeros h =
        let xs : List ℕ = length name ∷ (bytes_to name m ++ r) in
        let l = written_length in
        all_run (λ w. eqb w 0) xs (suc (length name)) (suc m - suc (length name)) (omega arith)
        ∙ all_from (λ i. eqb (get_or xs i 0) 0) (suc (length name)) (suc m - suc (length name)) (λ j a b. zero_at j a (omega arith))
      where
        zero_at : (j : ℕ) → suc (length name) ≤ j → j < suc m → eqb (get_or (length name ∷ (bytes_to name m ++ r)) j 0) 0 ≡ true
        zero_at zero a b = absurd (omega arith)
        zero_at (suc i) a b = eq-eqb _ 0 (written_at i (omega arith) ∙ get_or-eq_default name 0 (omega arith))

module _ (ps name : List ℕ) (room : NAME_WORDS ≤ length ps) (fits : length name ≤ MAX_STATE_NAME) where
  pub put_name_words : length (put_name ps name) ≡ length ps
  unfolding put_name
  put_name_words = let d = length-drop NAME_WORDS ps in written_length name MAX_STATE_NAME (drop NAME_WORDS ps) ∙ omega arith

  pub put_name_length : name_length_in (put_name ps name) ≡ length name
  unfolding put_name
  put_name_length = refl

  pub put_name_is : name_bytes_in (put_name ps name) ≡ name
  unfolding put_name
  put_name_is = written_name name MAX_STATE_NAME (drop NAME_WORDS ps) fits

  pub put_name_clean : all is_byte name ≡ true → name_words_clean (put_name ps name) ≡ true
  unfolding put_name name_words_clean
  put_name_clean b =
      and_both _ _ (le-leb (length name) MAX_STATE_NAME fits)
      (and_both _ _ (ap (all is_byte) (written_name name MAX_STATE_NAME (drop NAME_WORDS ps) fits) ∙ b)
      (written_zeros name MAX_STATE_NAME (drop NAME_WORDS ps) fits))

-- a name is in the first words of a place

clean_with : ℕ → List ℕ → Bool
clean_with k ps = leb k MAX_STATE_NAME && (all is_byte (between ps 1 (suc k)) && zeros (between ps (suc k) NAME_WORDS))

clean_with_lem : (k : ℕ) (ps : List ℕ) → NAME_WORDS ≤ length ps → clean_with k (take NAME_WORDS ps) ≡ clean_with k ps
unfolding clean_with
clean_with_lem k ps h = go (leb k MAX_STATE_NAME) refl
  where
    go : (t : Bool) → leb k MAX_STATE_NAME ≡ t → clean_with k (take NAME_WORDS ps) ≡ clean_with k ps
    go true e =
        let l : k ≤ MAX_STATE_NAME = leb-true k MAX_STATE_NAME e in
        rw (between_take 1 (suc k) NAME_WORDS ps (omega arith) h, between_take (suc k) NAME_WORDS NAME_WORDS ps (omega arith) h) refl
    go false e = rw e refl

module _ (xs ys : List ℕ) (hx : NAME_WORDS ≤ length xs) (hy : NAME_WORDS ≤ length ys) (same : take NAME_WORDS xs ≡ take NAME_WORDS ys) where
  pub same_name_length : name_length_in xs ≡ name_length_in ys
  same_name_length =
      sym (get_or-take NAME_WORDS xs 0 0 (omega arith)) ∙ (ap (λ (l : List ℕ). get_or l 0 0) same ∙ get_or-take NAME_WORDS ys 0 0 (omega arith))

  pub same_name_is : name_length_in ys ≤ MAX_STATE_NAME → name_bytes_in xs ≡ name_bytes_in ys
  same_name_is h =
      let k : ℕ = name_length_in ys in
      ap (λ (l : ℕ). between xs 1 (suc l)) same_name_length
      ∙ (sym (between_take 1 (suc k) NAME_WORDS xs (omega arith) hx)
      ∙ (ap (λ (l : List ℕ). between l 1 (suc k)) same ∙ between_take 1 (suc k) NAME_WORDS ys (omega arith) hy))

  pub same_name_clean : name_words_clean xs ≡ name_words_clean ys
  unfolding name_words_clean clean_with
  same_name_clean =
      ap (λ (k : ℕ). clean_with k xs) same_name_length
      ∙ (sym (clean_with_lem (name_length_in ys) xs hx) ∙ (ap (clean_with (name_length_in ys)) same ∙ clean_with_lem (name_length_in ys) ys hy))

-- a place's four parts

pub record Written (n c : ℕ) (ps name hd ws ks : List ℕ) : Type 0 where
  pub words : length ps ≡ place_words n c
  pub len : name_length_in ps ≡ length name
  pub bytes : name_bytes_in ps ≡ name
  pub head : head_in ps ≡ hd
  pub nodes : nodes_in n ps ≡ ws
  pub kids : kids_in n c ps ≡ ks
  pub clean : all is_byte name ≡ true → name_words_clean ps ≡ true

module _ (n c : ℕ) (ps name hd ws ks : List ℕ) (len : length ps ≡ place_words n c) (fits : length name ≤ MAX_STATE_NAME)
    (hl : length hd ≡ HEAD_WORDS) (wl : length ws ≡ node_words n) (kl : length ks ≡ child_words c) where
  -- the name, then the head, the nodes and the children
  abbrev pub with_name : List ℕ
  with_name = put_name ps name

  abbrev pub with_head : List ℕ
  with_head = put_part with_name NAME_WORDS nodes_from hd

  abbrev pub with_nodes : List ℕ
  with_nodes = put_part with_head nodes_from (kids_from n) ws

  abbrev pub with_kids : List ℕ
  with_kids = put_part with_nodes (kids_from n) (place_words n c) ks

  one : length with_name ≡ length ps
  one = put_name_words ps name (omega arith) fits

  two : length with_head ≡ length ps
  two = put_length NAME_WORDS nodes_from with_name hd (omega arith) (let a = one in omega arith) hl ∙ one

  wl' : length ws ≡ kids_from n - nodes_from
  wl' = wl ∙ sym (add-sub_cancel_left nodes_from (node_words n))

  kl' : length ks ≡ place_words n c - kids_from n
  kl' = kl ∙ sym (add-sub_cancel_left (kids_from n) (child_words c))

  in_head : nodes_from ≤ length with_name
  in_head = let a = one in omega arith

  in_nodes : kids_from n ≤ length with_head
  in_nodes = let a = two in omega arith

  three : length with_nodes ≡ length ps
  three = put_length nodes_from (kids_from n) with_head ws (omega arith) in_nodes wl' ∙ two

  in_kids : place_words n c ≤ length with_nodes
  in_kids = let a = three in omega arith

  four : length with_kids ≡ length ps
  four = put_length (kids_from n) (place_words n c) with_nodes ks (omega arith) in_kids kl' ∙ three

  same_first : take NAME_WORDS with_kids ≡ take NAME_WORDS with_name
  same_first =
      put_first (kids_from n) (place_words n c) with_nodes ks (omega arith) in_kids kl' NAME_WORDS (omega arith)
      ∙ (put_first nodes_from (kids_from n) with_head ws (omega arith) in_nodes wl' NAME_WORDS (omega arith)
      ∙ put_first NAME_WORDS nodes_from with_name hd (omega arith) in_head hl NAME_WORDS (omega arith))

  pub written : Written n c with_kids name hd ws ks
  written =
      let a : NAME_WORDS ≤ length with_kids = let f = four in omega arith in
      let b : NAME_WORDS ≤ length with_name = let o = one in omega arith in
      let p : NAME_WORDS ≤ length ps = omega arith in
      let l : name_length_in with_name ≡ length name = put_name_length ps name p fits in
      record {
        words = four ∙ len;
        len = same_name_length with_kids with_name a b same_first ∙ l;
        bytes = same_name_is with_kids with_name a b same_first (rw l fits) ∙ put_name_is ps name p fits;
        head = put_before (kids_from n) (place_words n c) with_nodes ks (omega arith) in_kids kl' NAME_WORDS nodes_from (omega arith)
            ∙ (put_before nodes_from (kids_from n) with_head ws (omega arith) in_nodes wl' NAME_WORDS nodes_from (omega arith)
            ∙ put_here NAME_WORDS nodes_from with_name hd (omega arith) in_head hl);
        nodes = put_before (kids_from n) (place_words n c) with_nodes ks (omega arith) in_kids kl' nodes_from (kids_from n) (omega arith)
            ∙ put_here nodes_from (kids_from n) with_head ws (omega arith) in_nodes wl';
        kids = put_here (kids_from n) (place_words n c) with_nodes ks (omega arith) in_kids kl';
        clean = λ q. same_name_clean with_kids with_name a b same_first ∙ put_name_clean ps name p fits q;
      }

-- the place that such words hold
module _ (n c : ℕ) (ps name hd ws ks : List ℕ) (w : Written n c ps name hd ws ks) (some_bytes : 1 ≤ length name) where
  held : name_length_in ps ≡ 0 → ⊥
  held z = let l = w.len in omega arith

  pub place_written : place_in n c ps ≡ some (record { name = name; store = with_room n c (store_in hd ws ks) })
  unfolding place_in
  place_written = rw (ne_eqb (name_length_in ps) 0 held, w.bytes, w.head, w.nodes, w.kids) refl

  pub clean_written : all is_byte name ≡ true → counts_are_room hd ≡ true → words.clean hd ws ks ≡ true → place_clean n c ps ≡ true
  unfolding held_clean
  clean_written b r cl =
      clean_held n c ps held
      ∙ and_both _ _ (w.clean b) (rw (w.head, w.nodes, w.kids) (and_both _ _ r cl))
