-- A place with its four parts written one after the other, the name, the head, the nodes and the children, holds the store whose used words they are.
-- Assumes nothing.
use mathlib.Core.Path.{◌≡◌, ap, sym, subst, ◌∙◌}
use mathlib.Core.Bool.{true}
use mathlib.Core.List.{List}
use Prim.Native.Nat.{ℕ, ◌-◌, ◌<◌, ◌≤◌}
use native.Mathlib.Omega.{arith}
use lib.Dec.{leb}
use lib.ListN.{length, get_or}
use borrow.Rule.Slice.PartMut.{mid_of, put_mid, mid_len}
use borrow.Author.Tests.{leb-true}
use Rattle.scope.specs.Limits.{MAX_STATE_NAME}
use Rattle.scope.specs.States.{name_length}
use Rattle.layout.specs.Words.{HEAD_WORDS, node_words, child_words, nodes_made, children_made, node_room, child_room, store_in}
use Rattle.layout.specs.Meaning.{header_in, put_header, Lies}
use Rattle.layout.specs.declared.Header.{Header}
use Rattle.layout.proofs.Lists.{and_left, and_right}
use Rattle.layout.proofs.StoreLaws.{length_put_header, header_put, clean_lies}
use Rattle.store.proofs.Laws.{remembered_fits_lem}
use Rattle.book.specs.Words.{BYTES, NAME_WORDS, nodes_from, kids_from, place_words, head_in, nodes_in, kids_in}
use Rattle.book.specs.Places.{put_part, Nameable, put_name}
use Rattle.book.proofs.Parts.{put_length}
use Rattle.book.proofs.Laws.{bytes_all, put_name_words, Written, written, place_written, clean_written}
use Rattle.keep.specs.Kept.{copied, Copyable, kept_header, Keeps}
use Rattle.keep.proofs.Replace.{length_copied, take_copied}
use Rattle.keep.proofs.KeepLaws.{keeps_clean, keeps_counts, keeps_store}
use Rattle.states.specs.Ready.{holding, HoldReady, HeldPlace}

-- a name that fits
pub name_short : (name : List ℕ) → name_length name ≡ true → length name ≤ MAX_STATE_NAME
name_short name e = leb-true (length name) MAX_STATE_NAME (and_right (leb 1 (length name)) (leb (length name) MAX_STATE_NAME) e)

pub name_some : (name : List ℕ) → name_length name ≡ true → 1 ≤ length name
name_some name e = leb-true 1 (length name) (and_left (leb 1 (length name)) (leb (length name) MAX_STATE_NAME) e)

module _ {h ws ks ps : List ℕ} {n c : ℕ} {name : List ℕ} (r : HoldReady h ws ks ps n c name) where
  now_lies : Lies h ws ks
  now_lies = clean_lies h ws ks r.clean

  node_room_lem : node_room h ≡ n
  unfolding store_in
  node_room_lem = r.nodes

  child_room_lem : child_room h ≡ c
  unfolding store_in
  child_room_lem = r.children

  short : length name ≤ MAX_STATE_NAME
  short = name_short name r.fits

  pub hold_name : Nameable ps name
  hold_name = record { words = omega (arith, r.words); bytes = short }

  -- the words as they become

  abbrev p₁ : List ℕ
  p₁ = put_name ps name

  abbrev hd : List ℕ
  hd = put_header (head_in p₁) (kept_header (header_in h))

  abbrev p₂ : List ℕ
  p₂ = put_part p₁ NAME_WORDS nodes_from hd

  abbrev wn : List ℕ
  wn = copied (node_words (nodes_made h)) ws (nodes_in n p₂)

  abbrev p₃ : List ℕ
  p₃ = put_part p₂ nodes_from (kids_from n) wn

  abbrev kn : List ℕ
  kn = copied (child_words (children_made h)) ks (kids_in n c p₃)

  long₁ : length p₁ ≡ place_words n c
  long₁ = put_name_words ps name hold_name.words short ∙ r.words

  head_part : length (head_in p₁) ≡ HEAD_WORDS
  head_part = mid_len NAME_WORDS nodes_from p₁ (let l = long₁ in omega arith)

  head_long : length hd ≡ HEAD_WORDS
  head_long = length_put_header (head_in p₁) (kept_header (header_in h)) (let l = head_part in omega arith) ∙ head_part

  long₂ : length p₂ ≡ place_words n c
  long₂ = put_length NAME_WORDS nodes_from p₁ hd (omega arith) (let l = long₁ in omega arith) head_long ∙ long₁

  nodes_part : length (nodes_in n p₂) ≡ kids_from n - nodes_from
  nodes_part = mid_len nodes_from (kids_from n) p₂ (let l = long₂ in omega arith)

  pub hold_nodes : Copyable (node_words (nodes_made h)) ws (nodes_in n p₂)
  hold_nodes =
      let l = now_lies in
      let k = node_room_lem in
      let j = nodes_part in
      record { source = omega (arith, l.nodes, l.node_slots); target = omega (arith, l.nodes) }

  nodes_same : length wn ≡ kids_from n - nodes_from
  nodes_same = length_copied (node_words (nodes_made h)) ws (nodes_in n p₂) hold_nodes ∙ nodes_part

  nodes_long : length wn ≡ node_words n
  nodes_long = let j = nodes_same in omega arith

  long₃ : length p₃ ≡ place_words n c
  long₃ = put_length nodes_from (kids_from n) p₂ wn (omega arith) (let l = long₂ in omega arith) nodes_same ∙ long₂

  kids_part : length (kids_in n c p₃) ≡ place_words n c - kids_from n
  kids_part = mid_len (kids_from n) (place_words n c) p₃ (let l = long₃ in omega arith)

  pub hold_kids : Copyable (child_words (children_made h)) ks (kids_in n c p₃)
  hold_kids =
      let l = now_lies in
      let k = child_room_lem in
      let j = kids_part in
      record { source = omega (arith, l.children, l.child_slots); target = omega (arith, l.children) }

  kids_long : length kn ≡ child_words c
  kids_long = let j = length_copied (child_words (children_made h)) ks (kids_in n c p₃) hold_kids ∙ kids_part in omega arith

  abbrev p₄ : List ℕ
  p₄ = put_part p₃ (kids_from n) (place_words n c) kn

  all_written : Written n c p₄ name hd wn kn
  all_written = written n c ps name hd wn kn r.words short head_long nodes_long kids_long

  keeps : Keeps h ws ks hd wn kn
  keeps =
      let l = now_lies in
      let i = node_room_lem in
      let j = child_room_lem in
      let k = head_long in
      let m = nodes_long in
      let o = kids_long in
      record {
        head = header_put (head_in p₁) (kept_header (header_in h)) (remembered_fits_lem (get_or h 4 0)) (remembered_fits_lem (get_or h 5 0));
        nodes = take_copied (node_words (nodes_made h)) ws (nodes_in n p₂) hold_nodes;
        kids = take_copied (child_words (children_made h)) ks (kids_in n c p₃) hold_kids;
        head_len = omega arith;
        node_len = omega (arith, l.nodes);
        child_len = omega (arith, l.children);
      }

  held_place : ((i : ℕ) → i < length name → get_or name i 0 < BYTES) → HeldPlace p₄ n c name (store_in h ws ks)
  held_place b =
      let w = all_written in
      record {
        words = w.words;
        clean = clean_written n c p₄ name hd wn kn w (name_some name r.fits) (bytes_all name b) (keeps_counts r.clean keeps) (keeps_clean r.clean keeps);
        is = place_written n c p₄ name hd wn kn w (name_some name r.fits)
            ∙ ap (holding name) (keeps_store r.clean keeps r.nodes r.children);
      }

  -- as the code goes
  module _ {x : Header} {a : ℕ} (g : x ≡ header_in h) (s : a ≡ kids_from n) {q₁ h₁ : List ℕ} (t : q₁ ≡ put_name ps name)
      (u : h₁ ≡ put_header (mid_of NAME_WORDS HEAD_WORDS q₁) (kept_header (header_in h))) where
    head_is : h₁ ≡ hd
    head_is = u ∙ ap (λ (l : List ℕ). put_header (mid_of NAME_WORDS HEAD_WORDS l) (kept_header (header_in h))) t

    abbrev q₂ : List ℕ
    q₂ = put_mid NAME_WORDS HEAD_WORDS q₁ h₁

    two_is : q₂ ≡ p₂
    two_is = ap (λ (l : List ℕ). put_mid NAME_WORDS HEAD_WORDS l h₁) t ∙ ap (put_mid NAME_WORDS HEAD_WORDS p₁) head_is

    old_nodes : mid_of nodes_from (a - nodes_from) q₂ ≡ nodes_in n p₂
    old_nodes = ap (λ (k : ℕ). mid_of nodes_from (k - nodes_from) q₂) s ∙ ap (nodes_in n) two_is

    module _ {m : ℕ} (y : m ≡ node_words x.nodes) where
      many : m ≡ node_words (nodes_made h)
      many = y ∙ ap (λ (v : Header). node_words v.nodes) g

      pub code_nodes : Copyable m ws (mid_of nodes_from (a - nodes_from) q₂)
      code_nodes = rw (many, old_nodes) hold_nodes

      module _ {e k : ℕ} {w₁ : List ℕ} (v : e ≡ place_words n c) (z : w₁ ≡ copied m ws (mid_of nodes_from (a - nodes_from) q₂)) (o : k ≡ child_words x.children) where
        nodes_are : w₁ ≡ wn
        nodes_are = z ∙ (ap (λ (j : ℕ). copied j ws (mid_of nodes_from (a - nodes_from) q₂)) many ∙ ap (copied (node_words (nodes_made h)) ws) old_nodes)

        abbrev q₃ : List ℕ
        q₃ = put_mid nodes_from (a - nodes_from) q₂ w₁

        three_is : q₃ ≡ p₃
        three_is =
            ap (λ (j : ℕ). put_mid nodes_from (j - nodes_from) q₂ w₁) s
            ∙ (ap (λ (l : List ℕ). put_part l nodes_from (kids_from n) w₁) two_is ∙ ap (put_part p₂ nodes_from (kids_from n)) nodes_are)

        old_kids : mid_of a (e - a) q₃ ≡ kids_in n c p₃
        old_kids =
            ap (λ (j : ℕ). mid_of j (e - j) q₃) s
            ∙ (ap (λ (j : ℕ). mid_of (kids_from n) (j - kids_from n) q₃) v ∙ ap (kids_in n c) three_is)

        much : k ≡ child_words (children_made h)
        much = o ∙ ap (λ (v : Header). child_words v.children) g

        pub code_kids : Copyable k ks (mid_of a (e - a) q₃)
        code_kids = rw (much, old_kids) hold_kids

        module _ {k₁ : List ℕ} (f : k₁ ≡ copied k ks (mid_of a (e - a) q₃)) where
          kids_are : k₁ ≡ kn
          kids_are = f ∙ (ap (λ (j : ℕ). copied j ks (mid_of a (e - a) q₃)) much ∙ ap (copied (child_words (children_made h)) ks) old_kids)

          four_is : put_mid a (e - a) q₃ k₁ ≡ p₄
          four_is =
              ap (λ (j : ℕ). put_mid j (e - j) q₃ k₁) s
              ∙ (ap (λ (j : ℕ). put_mid (kids_from n) (j - kids_from n) q₃ k₁) v
              ∙ (ap (λ (l : List ℕ). put_part l (kids_from n) (place_words n c) k₁) three_is ∙ ap (put_part p₃ (kids_from n) (place_words n c)) kids_are))

          pub code_held : ((i : ℕ) → i < length name → get_or name i 0 < BYTES) → HeldPlace (put_mid a (e - a) q₃ k₁) n c name (store_in h ws ks)
          code_held b = subst (λ (l : List ℕ). HeldPlace l n c name (store_in h ws ks)) (sym four_is) (held_place b)
