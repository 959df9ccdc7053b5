-- A mark is a bit of its node's word: setting one leaves the others as they were. What each function does to the words, and so to what is marked.
-- Assumes nothing.
use mathlib.Core.Path.{◌≡◌, ap, sym, subst, ◌∙◌}
use mathlib.Core.List.{List}
use mathlib.Core.Logic.{◌⊎◌, inl, inr}
use Prim.Native.Nat.{ℕ, zero, suc, ◌+◌, ◌-◌, ◌*◌, ◌/◌, ◌%◌, ◌^◌, ◌<◌, ◌≤◌, max}
use native.Mathlib.Omega.{arith}
use native.Mathlib.Nat.{mod-lt, div-eq_of_lt}
use native.Mathlib.Decide.{ℕ_discrete, dec_lt}
use lib.Bits.{bit_or, or_step, or_shr, shifted_even}
use lib.Pow.{pow-lt, pow-add, shl_exact, shl-shr}
use lib.Dec.{lit<}
use lib.ListN.{length, get_or, set}
use lib.Seq.{get_or-set_same, get_or-set_other, set_out}
use Rattle.scope.specs.Limits.{MAX_NODES}
use Rattle.marks.specs.Marks.{BITS, MARKED, MARKS, HEAD, bit_of, Knows, Beside, Opened, Marked}

-- one bit of a word

-- a power's digits: one of them is 1
power_digit : (k j : ℕ) → 2 ^ k / 2 ^ j % 2 ≡ 1 → j ≡ k
power_digit k j e = go (dec_lt k j) (dec_lt j k)
  where
    above : k < j → ⊥
    above h = omega (arith, e, ap (λ (v : ℕ). v % 2) (div-eq_of_lt (pow-lt h)))

    below : j < k → ⊥
    below h =
        let d : ℕ = k - suc j in
        let q : k ≡ suc d + j = omega arith in
        let r : 2 ^ k / 2 ^ j ≡ 2 ^ suc d = ap (λ (v : ℕ). 2 ^ v / 2 ^ j) q ∙ (ap (λ (v : ℕ). v / 2 ^ j) (pow-add 2 (suc d) j) ∙ shl-shr (2 ^ suc d) j) in
        let s : 1 * 2 ^ suc d % 2 ≡ 0 = shifted_even 1 d in
        omega (arith, e, ap (λ (v : ℕ). v % 2) r, s)

    go : Dec (k < j) → Dec (j < k) → j ≡ k
    go (yes h) d = absurd (above h)
    go (no h) (yes g) = absurd (below g)
    go (no h) (no g) = omega arith

either_one : (a b : ℕ) → a < 2 → b < 2 → max a b ≡ 1 → (b ≡ 1) ⊎ (a ≡ 1)
either_one zero zero ha hb e = absurd (omega arith)
either_one (suc a) b ha hb e = inr (omega arith)
either_one zero (suc b) ha hb e = inl (omega arith)

max_below : (a b : ℕ) → a < 2 → b < 2 → max a b < 2
max_below a b ha hb = omega arith

last : (h x : ℕ) → x < 2 → (h * 2 + x) % 2 ≡ x
last h x l = omega arith

-- a word with one bit more
pub bit_more : (w i j : ℕ) → bit_of (bit_or w (2 ^ (i % BITS))) j ≡ 1 → (j % BITS ≡ i % BITS) ⊎ (bit_of w j ≡ 1)
bit_more w i j e =
    elim (either_one (w / p % 2) (q / p % 2) (mod-lt (w / p) (omega arith)) (mod-lt (q / p) (omega arith)) (sym digit ∙ e))
    [ inl h ↦ inl (power_digit (i % BITS) (j % BITS) h) | inr h ↦ inr h ]
  where
    p : ℕ
    p = 2 ^ (j % BITS)

    q : ℕ
    q = 2 ^ (i % BITS)

    digit : bit_or w q / p % 2 ≡ max (w / p % 2) (q / p % 2)
    digit =
        ap (λ (v : ℕ). v % 2) (or_shr w q (j % BITS) ∙ or_step (w / p) (q / p))
        ∙ last (bit_or (w / p / 2) (q / p / 2)) (max (w / p % 2) (q / p % 2)) (max_below (w / p % 2) (q / p % 2) (mod-lt (w / p) (omega arith)) (mod-lt (q / p) (omega arith)))

-- words that say which nodes are marked

pub marks_same : {m m' : List ℕ} → ((j : ℕ) → MARKED ≤ j → j < HEAD → get_or m' j 0 ≡ get_or m j 0) → (i : ℕ) → Knows m' i → Knows m i
marks_same h i k = record {
  inside = k.inside;
  some = sym (h MARKED (omega arith) (omega arith)) ∙ k.some;
  mark = ap (λ (w : ℕ). bit_of w i) (sym (h (MARKS + i / BITS) (omega arith) (omega (arith, k.inside)))) ∙ k.mark;
}

-- `open_marks`

-- a word of the marks changes
beside_set : {m₀ m m' : List ℕ} (p x : ℕ) → Beside m₀ m → MARKED ≤ p → p < HEAD → m' ≡ set m p x → Beside m₀ m'
beside_set {m₀} {m} {m'} p x b l h e = record { before = λ j g. other j (λ q. omega arith) ∙ b.before j g; after = λ j g. other j (λ q. omega arith) ∙ b.after j g }
  where
    other : (j : ℕ) → (j ≡ p → ⊥) → get_or m' j 0 ≡ get_or m j 0
    other j q = ap (λ (v : List ℕ). get_or v j 0) e ∙ get_or-set_other m p j x 0 q

-- the words of the marks are 0
pub record Opening (m₀ m : List ℕ) : Type 0 where
  pub zero : (j : ℕ) → MARKS ≤ j → j < HEAD → get_or m j 0 ≡ 0
  pub beside : Beside m₀ m

pub opened : {m w m' : List ℕ} → Opening m w → m' ≡ set w MARKED 1 → Opened m m'
opened {m} {w} {m'} o e = record { beside = beside_set MARKED 1 o.beside (omega arith) (omega arith) e; marks = λ i k. absurd (none i k.inside k.mark) }
  where
    word : (j : ℕ) → MARKS ≤ j → j < HEAD → get_or m' j 0 ≡ 0
    word j h g = ap (λ (v : List ℕ). get_or v j 0) e ∙ (get_or-set_other w MARKED j 1 0 (λ q. omega arith) ∙ o.zero j h g)

    none : (i : ℕ) → i < MAX_NODES → bit_of (get_or m' (MARKS + i / BITS) 0) i ≡ 1 → ⊥
    none i h k =
        let b : bit_of 0 i ≡ 1 = ap (λ (v : ℕ). bit_of v i) (sym (word (MARKS + i / BITS) (omega arith) (omega (arith, h)))) ∙ k in
        grind (arith, b)

-- `know`

pub marked : {m m₁ m₂ : List ℕ} {i w : ℕ} → i < MAX_NODES → Opened m m₁ → w ≡ get_or m₁ (MARKS + i / BITS) 0
    → m₂ ≡ set m₁ (MARKS + i / BITS) (bit_or w (1 * 2 ^ (i % BITS) % 2 ^ 32)) → Marked m m₂ i
marked {m} {m₁} {m₂} {i} {w} h o ew e = record {
  beside = beside_set p _ o.beside (omega arith) (omega (arith, h)) e;
  marks = λ j k. go j k (ℕ_discrete (MARKS + j / BITS) p);
}
  where
    p : ℕ
    p = MARKS + i / BITS

    bit : 1 * 2 ^ (i % BITS) % 2 ^ 32 ≡ 2 ^ (i % BITS)
    bit = shl_exact {a = 1} 1 (i % BITS) 32 (lit< tt) (omega arith) ∙ omega arith

    other : (j : ℕ) → (j ≡ p → ⊥) → get_or m₂ j 0 ≡ get_or m₁ j 0
    other j q = ap (λ (l : List ℕ). get_or l j 0) e ∙ get_or-set_other m₁ p j _ 0 q

    -- the marks' words are m₁'s but for one, which has a bit more
    some : (j : ℕ) → Knows m₂ j → get_or m₁ MARKED 0 ≡ 1
    some j k = sym (other MARKED (λ q. omega arith)) ∙ k.some

    here : (j : ℕ) → Knows m₂ j → MARKS + j / BITS ≡ p → (d : Dec (p < length m₁)) → (j ≡ i) ⊎ Knows m₁ j
    here j k q (no l) = inr (record {
      inside = k.inside;
      some = some j k;
      mark = subst (λ (v : List ℕ). bit_of (get_or v (MARKS + j / BITS) 0) j ≡ 1) (e ∙ set_out m₁ p _ (omega (arith, l))) k.mark;
    })
    here j k q (yes l) =
        let x : get_or m₂ (MARKS + j / BITS) 0 ≡ bit_or w (2 ^ (i % BITS)) =
        ap (λ (v : ℕ). get_or m₂ v 0) q ∙ (ap (λ (v : List ℕ). get_or v p 0) e ∙ (get_or-set_same m₁ p _ 0 l ∙ ap (bit_or w) bit)) in
        elim (bit_more w i j (ap (λ (v : ℕ). bit_of v j) (sym x) ∙ k.mark)) [
          | inl y ↦ inl (omega (arith, y, q))
          | inr y ↦ inr (record { inside = k.inside; some = some j k; mark = ap (λ (v : ℕ). bit_of v j) (ap (λ (v : ℕ). get_or m₁ v 0) q ∙ sym ew) ∙ y })
        ]

    go : (j : ℕ) → Knows m₂ j → Dec (MARKS + j / BITS ≡ p) → (j ≡ i) ⊎ Knows m j
    go j k (yes q) = elim (here j k q (dec_lt p (length m₁))) [ inl y ↦ inl y | inr y ↦ inr (o.marks j y) ]
    go j k (no q) = inr (o.marks j (record { inside = k.inside; some = some j k; mark = ap (λ (v : ℕ). bit_of v j) (sym (other (MARKS + j / BITS) q)) ∙ k.mark }))
