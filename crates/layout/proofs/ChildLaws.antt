-- The laws of children in words: a child that is put is read back and no other changes, and children put past those made change no node and no kind.
-- A node's children lie among those made, so words that agree on these give the same cells.
-- Assumes nothing.
use mathlib.Core.Path.{◌≡◌, refl, ap, sym, ◌∙◌}
use mathlib.Core.Bool.{true}
use mathlib.Core.List.{List, [], ◌∷◌, ◌++◌}
use Prim.Native.Nat.{ℕ, zero, suc, ◌+◌, ◌-◌, ◌*◌, ◌<◌, ◌≤◌}
use native.Mathlib.Omega.{arith}
use native.Mathlib.Numerals.{add-one}
use lib.Dec.{leb}
use native.Mathlib.Nat.{add-sub_cancel_left}
use lib.ListN.{length, get_or, take, drop, length-drop, length-map, get_or-map}
use lib.Seq.{sets, get_or-take, get_or-drop, length-take-le}
use borrow.Author.Tests.{leb-true, le-leb}
use borrow.Rule.Slice.PartMut.{mid_of, put_mid}
use Rattle.scope.specs.Base.{is_some}
use Rattle.scope.specs.Types.{ty_of}
use Rattle.scope.specs.Sound as sound
use Rattle.layout.specs.Words.{child_words, slot_at, slots, first_at, count_at, cell_at, node_at, node_clean, decode}
use Rattle.layout.specs.Meaning.{slot_in, slot_words, slot_means, put_slot, kind_cell, kind_means, kind_fits, Clean, Kept}
use Rattle.layout.specs.declared.Slot.{Slot}
use Rattle.layout.specs.declared.Kind.{Kind}
use Rattle.layout.proofs.Lists.{sets_all, and_both, and_left, and_right, part_here, part_other, drop_past, length_part, length_from, get_from, map_snoc, same_from}
use Rattle.layout.proofs.Laws.{decode_same}

-- runs of children

pub length_slots : (ks : List ℕ) (i n : ℕ) → length (slots ks i n) ≡ n
length_slots ks i n = length_from (slot_at ks) i n

pub slots_get : (ks : List ℕ) (i n j : ℕ) (d : sound.Slot) → j < n → get_or (slots ks i n) j d ≡ slot_at ks (i + j)
slots_get ks i n j d h = get_from (slot_at ks) i n j d h

pub slots_push : (ks : List ℕ) (i n : ℕ) → slots ks i (n + 1) ≡ slots ks i n ++ (slot_at ks (i + n) ∷ [])
slots_push ks i n = ap (slots ks i) (add-one n) ∙ map_snoc (slot_at ks) i n

pub front_slots : (ks : List ℕ) (i n : ℕ) → sound.front (slots ks i (suc n)) ≡ slots ks i n
front_slots ks i zero = refl
front_slots ks i (suc n) = ap (λ (l : List sound.Slot). slot_at ks i ∷ l) (front_slots ks (suc i) n)

pub last_slots : (ks : List ℕ) (i n : ℕ) → sound.last (slots ks i (suc n)) ≡ slots ks (i + n) 1
last_slots ks i zero = ap (λ (j : ℕ). slots ks j 1) (omega arith)
last_slots ks i (suc n) = last_slots ks (suc i) n ∙ ap (λ (j : ℕ). slots ks j 1) (omega arith)

-- a list's first n children, whatever follows them
pub slots_front : (ks : List ℕ) (n : ℕ) → slots (take (child_words n) ks) 0 n ≡ slots ks 0 n
slots_front ks n =
    same_from (slot_at (take (child_words n) ks)) (slot_at ks) 0 n
    (λ j a b. rw (
      get_or-take (child_words n) ks (j * 4 + 0) 0 (omega arith),
      get_or-take (child_words n) ks (j * 4 + 1) 0 (omega arith),
      get_or-take (child_words n) ks (j * 4 + 2) 0 (omega arith),
      get_or-take (child_words n) ks (j * 4 + 3) 0 (omega arith),
    ))

pub length_kids : (ks : List ℕ) (k : Kind) → length (kind_means ks k).kids ≡ k.count
unfolding kind_means
length_kids ks k = length-map (slots ks k.first k.count) (λ s. ty_of s.type) ∙ length_slots ks k.first k.count

pub kid_at : (ks : List ℕ) (k : Kind) (j : ℕ) (d : sound.Slot) → j < k.count
    → get_or (kind_means ks k).kids j (ty_of d.type) ≡ ty_of (slot_at ks (k.first + j)).type
unfolding kind_means
kid_at ks k j d h =
    get_or-map (λ s. ty_of s.type) (slots ks k.first k.count) j d
    ∙ ap (λ (s : sound.Slot). ty_of s.type) (slots_get ks k.first k.count j d h)

-- put

pub slot_words_lem : (ks : List ℕ) (i : ℕ) → slot_at ks i ≡ slot_means (slot_in (mid_of (i * 4) 4 ks))
slot_words_lem ks i = rw (
  get_or-take 4 (drop (i * 4) ks) 0 0 (omega arith),
  get_or-take 4 (drop (i * 4) ks) 1 0 (omega arith),
  get_or-take 4 (drop (i * 4) ks) 2 0 (omega arith),
  get_or-take 4 (drop (i * 4) ks) 3 0 (omega arith),
) (rw (get_or-drop (i * 4) ks 0 0, get_or-drop (i * 4) ks 1 0, get_or-drop (i * 4) ks 2 0, get_or-drop (i * 4) ks 3 0))

module _ (ks : List ℕ) (i : ℕ) (s : Slot) (room : i * 4 + 4 ≤ length ks) where
  -- the words of a slot over the whole part of child i
  pub put_slot_lem : put_mid (i * 4) (i * 4 + 4 - i * 4) ks (sets (take (i * 4 + 4 - i * 4) (drop (i * 4) ks)) 0 (slot_words s)) ≡ put_slot ks i s
  unfolding put_slot
  put_slot_lem =
      let k : length (mid_of (i * 4) 4 ks) ≡ 4 = length-take-le 4 (drop (i * 4) ks) (simp length-drop (omega arith)) in
      rw add-sub_cancel_left (ap (λ (l : List ℕ). put_mid (i * 4) 4 ks l) (sets_all (mid_of (i * 4) 4 ks) (slot_words s) k))

  pub slot_here : slot_at (put_slot ks i s) i ≡ slot_means s
  unfolding put_slot
  slot_here = slot_words_lem (put_slot ks i s) i ∙ ap (λ (l : List ℕ). slot_means (slot_in l)) (part_here (i * 4) 4 ks (slot_words s) refl room)

  pub slot_there : (j : ℕ) → (j ≡ i → ⊥) → slot_at (put_slot ks i s) j ≡ slot_at ks j
  unfolding put_slot
  slot_there j h =
      slot_words_lem (put_slot ks i s) j
      ∙ (ap (λ (l : List ℕ). slot_means (slot_in l)) (part_other (i * 4) 4 (j * 4) ks (slot_words s) refl room (λ g. omega arith) (λ g. omega arith))
      ∙ sym (slot_words_lem ks j))

  pub length_put_child : length (put_slot ks i s) ≡ length ks
  unfolding put_slot
  length_put_child = length_part (i * 4) 4 ks (slot_words s) refl room

  -- words past the child stay
  pub tail_put_child : (n : ℕ) → i < n → drop (child_words n) (put_slot ks i s) ≡ drop (child_words n) ks
  unfolding put_slot
  tail_put_child n h = drop_past (i * 4) 4 ks (slot_words s) refl room (n * 4) (omega arith)

  -- a child put past the c made leaves these
  pub kept_put : (c : ℕ) → c ≤ i → Kept c ks (put_slot ks i s)
  kept_put c h = record { same = λ j g. slot_there j (λ z. omega arith) }

pub kept_refl : (c : ℕ) (ks : List ℕ) → Kept c ks ks
kept_refl c ks = record { same = λ j g. refl }

pub kept_trans : {c : ℕ} {ks ks' ks'' : List ℕ} → Kept c ks ks' → Kept c ks' ks'' → Kept c ks ks''
kept_trans a b = record { same = λ j g. b.same j g ∙ a.same j g }

pub kept_less : {b c : ℕ} {ks ks' : List ℕ} → b ≤ c → Kept c ks ks' → Kept b ks ks'
kept_less h a = record { same = λ j g. a.same j (omega arith) }

-- a kind that fits has its children among those made
pub kind_room : (ks : List ℕ) (c : ℕ) (k : Kind) → kind_fits ks c k ≡ true → k.first + k.count ≤ c
unfolding kind_fits
kind_room ks c k h = leb-true (k.first + k.count) c (and_left (leb (k.first + k.count) c) (sound.names_clean (kind_cell ks k)) h)

-- words that agree on the children made give the same cells, nodes and kinds

module _ (c : ℕ) (ks ks' : List ℕ) (kept : Kept c ks ks') where
  slots_kept : (i n : ℕ) → i + n ≤ c → slots ks' i n ≡ slots ks i n
  slots_kept i n h = same_from (slot_at ks') (slot_at ks) i n (λ j a b. kept.same j (omega arith))

  module _ (ws : List ℕ) where
    clean_room : (i : ℕ) → node_clean ws ks c i ≡ true → first_at ws i + count_at ws i ≤ c
    unfolding node_clean
    clean_room i h =
        leb-true (first_at ws i + count_at ws i) c
        (and_left (leb (first_at ws i + count_at ws i) c) (is_some (sound.node_in (cell_at ws ks i))) h)

    cell_kept : (i : ℕ) → node_clean ws ks c i ≡ true → cell_at ws ks' i ≡ cell_at ws ks i
    unfolding cell_at
    cell_kept i h = rw (slots_kept (first_at ws i) (count_at ws i) (clean_room i h))

    clean_kept_at : (c' i : ℕ) → c ≤ c' → node_clean ws ks c i ≡ true → node_clean ws ks' c' i ≡ true
    unfolding node_clean
    clean_kept_at c' i g h =
        let r : first_at ws i + count_at ws i ≤ c = clean_room i h in
        and_both (leb (first_at ws i + count_at ws i) c') (is_some (sound.node_in (cell_at ws ks' i))) (le-leb (first_at ws i + count_at ws i) c' (omega arith))
        (rw (cell_kept i h) (and_right (leb (first_at ws i + count_at ws i) c) (is_some (sound.node_in (cell_at ws ks i))) h))

    pub node_at_kept : (i : ℕ) → node_clean ws ks c i ≡ true → node_at ws ks' i ≡ node_at ws ks i
    unfolding node_at
    node_at_kept i h = rw (cell_kept i h)

    -- children written past those made change no node
    pub decode_kept : (n : ℕ) → Clean ws ks c n → decode ws ks' n ≡ decode ws ks n
    decode_kept n cl = decode_same ws ws ks' ks n (λ i h. node_at_kept i (cl.each i h))

    pub clean_kept : (c' n : ℕ) → c ≤ c' → Clean ws ks c n → Clean ws ks' c' n
    clean_kept c' n g cl = record { room = cl.room; each = λ i h. clean_kept_at c' i g (cl.each i h) }
