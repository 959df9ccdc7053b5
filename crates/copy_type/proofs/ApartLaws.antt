-- A run of children that no node has: it stays so when a node is put elsewhere, the children made stand apart from those after them, and its words may
-- be written without a change to any node. Assumes nothing.
use mathlib.Core.Path.{◌≡◌, refl, sym}
use mathlib.Core.Bool.{true}
use mathlib.Core.Logic.{◌⊎◌, inl, inr}
use mathlib.Core.List.{List}
use Prim.Native.Nat.{ℕ, ◌+◌, ◌≤◌, ◌<◌}
use native.Mathlib.Omega.{arith}
use native.Mathlib.Decide.{ℕ_discrete}
use lib.Dec.{leb}
use lib.ListN.{length, drop}
use borrow.Author.Tests.{leb-true}
use Rattle.scope.specs.Base.{is_some}
use Rattle.scope.specs.Sound.{node_in}
use Rattle.layout.specs.Words.{node_words, child_words, nodes_made, children_made, slot_at, slots, first_at, count_at, cell_at, node_at, node_clean, decode, store_in, clean}
use Rattle.layout.specs.Meaning.{cell_in, cell_of, cell_words, put_at, Clean, Lies}
use Rattle.layout.specs.declared.Cell.{Cell}
use Rattle.layout.specs.declared.TypeNode.{TypeNode}
use Rattle.layout.proofs.Lists.{and_left, same_from}
use Rattle.layout.proofs.Cells.{field_word, cell_first}
use Rattle.layout.proofs.Laws.{words_here, words_there, decode_same}
use Rattle.layout.proofs.StoreLaws.{clean_lies, clean_unused, clean_nodes, clean_of, unused_grown}
use Rattle.copy_type.specs.Words.{Apart}

-- where a node's children lie, by its cell

first_word : (ws : List ℕ) (i : ℕ) → first_at ws i ≡ cell_first (cell_in (cell_words ws i))
first_word ws i = rw (field_word ws i 0 (omega arith), field_word ws i 1 (omega arith))

count_word : (ws : List ℕ) (i : ℕ) → count_at ws i ≡ (cell_in (cell_words ws i)).count
count_word ws i = sym (field_word ws i 11 (omega arith))

abbrev pub CellApart : ℕ → ℕ → Cell → Type 0
CellApart a e x = (cell_first x + x.count ≤ a) ⊎ (e ≤ cell_first x)

module _ (a e : ℕ) (ws : List ℕ) (m : ℕ) (room : node_words m ≤ length ws) (i : ℕ) (v : TypeNode) (own : CellApart a e (cell_of v))
    (each : (j : ℕ) → j < m → (j ≡ i → ⊥) → (first_at ws j + count_at ws j ≤ a) ⊎ (e ≤ first_at ws j)) where
  pub apart_put : Apart a e (put_at ws m i v) m
  apart_put = record { each = λ j h. rw (first_word (put_at ws m i v) j, count_word (put_at ws m i v) j) (go j h (ℕ_discrete j i)) }
    where
      go : (j : ℕ) → j < m → Dec (j ≡ i) → CellApart a e (cell_in (cell_words (put_at ws m i v) j))
      go j h (yes z) = rw (z, words_here ws m room i v (omega arith)) own
      go j h (no z) = rw (words_there ws m room i v j z, ← (first_word ws j), ← (count_word ws j)) (each j h z)

-- the children made stand before any that are made later
pub apart_made : {ws ks : List ℕ} {c n : ℕ} (e : ℕ) → Clean ws ks c n → Apart c e ws n
unfolding node_clean
apart_made {ws} {ks} {c} e cl = record {
  each = λ i h.
      inl (leb-true (first_at ws i + count_at ws i) c (and_left (leb (first_at ws i + count_at ws i) c) (is_some (node_in (cell_at ws ks i))) (cl.each i h)));
}

-- other words in the run
module _ {a e n : ℕ} {ws : List ℕ} (ap : Apart a e ws n) (ks ks' : List ℕ) (same : (j : ℕ) → (j < a) ⊎ (e ≤ j) → slot_at ks' j ≡ slot_at ks j) where
  run_same : (i m : ℕ) → (i + m ≤ a) ⊎ (e ≤ i) → slots ks' i m ≡ slots ks i m
  run_same i m (inl h) = same_from (slot_at ks') (slot_at ks) i m (λ j p q. same j (inl (omega arith)))
  run_same i m (inr h) = same_from (slot_at ks') (slot_at ks) i m (λ j p q. same j (inr (omega arith)))

  cell_same : (i : ℕ) → i < n → cell_at ws ks' i ≡ cell_at ws ks i
  unfolding cell_at
  cell_same i h = rw (run_same (first_at ws i) (count_at ws i) (ap.each i h))

  node_same : (i : ℕ) → i < n → node_at ws ks' i ≡ node_at ws ks i
  unfolding node_at
  node_same i h = rw (cell_same i h)

  decode_apart : decode ws ks' n ≡ decode ws ks n
  decode_apart = decode_same ws ws ks' ks n node_same

  clean_same : (c i : ℕ) → i < n → node_clean ws ks c i ≡ true → node_clean ws ks' c i ≡ true
  unfolding node_clean
  clean_same c i h q = rw (cell_same i h) q

  clean_apart : {c : ℕ} → Clean ws ks c n → Clean ws ks' c n
  clean_apart {c} cl = record { room = cl.room; each = λ i h. clean_same c i h (cl.each i h) }

module _ {a e : ℕ} (h ws ks : List ℕ) (ok : clean h ws ks ≡ true) (ap : Apart a e ws (nodes_made h)) (ks' : List ℕ)
    (same : (j : ℕ) → (j < a) ⊎ (e ≤ j) → slot_at ks' j ≡ slot_at ks j) (long : length ks' ≡ length ks)
    (tail : drop (child_words (children_made h)) ks' ≡ drop (child_words (children_made h)) ks) where
  pub store_apart : store_in h ws ks' ≡ store_in h ws ks
  unfolding store_in
  store_apart = rw (decode_apart ap ks ks' same)

  pub words_apart : clean h ws ks' ≡ true
  words_apart =
      let l : Lies h ws ks = clean_lies h ws ks ok in
      clean_of h ws ks'
      (record { head = l.head; nodes = l.nodes; children = l.children; node_slots = l.node_slots; child_slots = rw long l.child_slots })
      (unused_grown h ws ks h ws ks'
      (record { node_rooms = refl; child_rooms = refl; nodes = omega arith; children = omega arith; node_tail = refl; child_tail = tail })
      (clean_unused h ws ks ok))
      (clean_apart ap ks ks' same (clean_nodes h ws ks ok))
