-- The counts alone, written into a header, are the header with other counts: the other words say again what they said. The slot behind the nodes of clean
-- words has no word but 0.
-- Assumes nothing.
use mathlib.Core.Path.{◌≡◌, refl, ap, sym, ◌∙◌}
use mathlib.Core.Bool.{Bool, true, false}
use mathlib.Core.List.{List, [], ◌∷◌}
use Prim.Native.Nat.{ℕ, zero, suc, ◌+◌, ◌-◌, ◌*◌, ◌/◌, ◌%◌, ◌<◌, ◌≤◌}
use native.Mathlib.Omega.{arith}
use lib.Dec.{eqb}
use lib.ListN.{length, get_or, take, drop, replicate, length-drop}
use lib.Seq.{length-take-le}
use borrow.Author.Tests.{eqb-true}
use Rattle.scope.specs.Limits.{NONE}
use Rattle.scope.specs.Sound.{zeros}
use Rattle.layout.specs.Words.{HEAD_WORDS, node_words, nodes_made, node_room, between, unused_zero, clean}
use Rattle.layout.specs.Meaning.{HALF, remembered_of, remembered_word, header_in, put_header, cell_words, Lies}
use Rattle.heads.specs.Heads.{put_counts, counted, no_words}
use Rattle.layout.proofs.Lists.{and_left, and_right}
use Rattle.layout.proofs.StoreLaws.{clean_lies, clean_unused}

-- the header

word_by : (b : Bool) (w : ℕ) → eqb w NONE ≡ b → remembered_word (remembered_of w) ≡ w
word_by true w q = rw q (sym (eqb-true w NONE q))
word_by false w q = rw q refl

word_back : (w : ℕ) → remembered_word (remembered_of w) ≡ w
word_back w = word_by (eqb w NONE) w refl

low_half : (a b : ℕ) → a < HALF → (a + b * 4294967296) % HALF ≡ a
low_half a b l = omega arith

high_half : (a b : ℕ) → a < HALF → (a + b * 4294967296) / HALF ≡ b
high_half a b l = omega arith

pub put_counts_lem : (h : List ℕ) (n c : ℕ) → HEAD_WORDS ≤ length h → get_or h 6 0 < HALF → put_counts h n c ≡ put_header h (counted (header_in h) n c)
unfolding put_counts put_header
put_counts_lem [] n c l s = absurd (omega arith)
put_counts_lem (_ ∷ []) n c l s = absurd (omega arith)
put_counts_lem (_ ∷ _ ∷ []) n c l s = absurd (omega arith)
put_counts_lem (_ ∷ _ ∷ _ ∷ []) n c l s = absurd (omega arith)
put_counts_lem (_ ∷ _ ∷ _ ∷ _ ∷ []) n c l s = absurd (omega arith)
put_counts_lem (_ ∷ _ ∷ _ ∷ _ ∷ _ ∷ []) n c l s = absurd (omega arith)
put_counts_lem (_ ∷ _ ∷ _ ∷ _ ∷ _ ∷ _ ∷ []) n c l s = absurd (omega arith)
put_counts_lem (_ ∷ _ ∷ _ ∷ _ ∷ _ ∷ _ ∷ _ ∷ []) n c l s = absurd (omega arith)
put_counts_lem (a ∷ b ∷ p ∷ q ∷ e ∷ z ∷ v ∷ w ∷ h) n c l s = rw (word_back e, word_back z, low_half v w s, high_half v w s)

-- the slot behind the nodes

zeros_all : (l : List ℕ) → zeros l ≡ true → l ≡ replicate (length l) 0
zeros_all [] z = refl
zeros_all (x ∷ l) z = rw (eqb-true x 0 (and_left (eqb x 0) (zeros l) z), ← (zeros_all l (and_right (eqb x 0) (zeros l) z)))

zeros_take : (k m : ℕ) (l : List ℕ) → k ≤ m → zeros (take m l) ≡ true → zeros (take k l) ≡ true
zeros_take zero m l h z = refl
zeros_take (suc k) m [] h z = refl
zeros_take (suc k) zero (x ∷ l) h z = absurd (omega arith)
zeros_take (suc k) (suc m) (x ∷ l) h z =
    rw (eqb-true x 0 (and_left (eqb x 0) (zeros (take m l)) z)) (zeros_take k m l (omega arith) (and_right (eqb x 0) (zeros (take m l)) z))

pub next_unused : (h ws ks : List ℕ) → clean h ws ks ≡ true → nodes_made h + 1 ≤ node_room h → cell_words ws (nodes_made h) ≡ no_words
unfolding unused_zero
next_unused h ws ks ok more =
    let l : Lies h ws ks = clean_lies h ws ks ok in
    let n : ℕ = nodes_made h in
    let z = and_left (zeros (between ws (node_words n) (node_words (node_room h)))) _ (clean_unused h ws ks ok) in
    let e : length (cell_words ws n) ≡ 12 = length-take-le 12 (drop (n * 12) ws) (simp length-drop (omega (arith, l.node_slots))) in
    zeros_all (cell_words ws n) (zeros_take 12 (node_words (node_room h) - node_words n) (drop (n * 12) ws) (omega arith) z) ∙ ap (λ (k : ℕ). replicate k 0) e
