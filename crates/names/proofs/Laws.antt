-- Laws of names: the library's comparison of two slices of bytes says what `eq_bytes` does, and a name that lies in its text has its own length. The loop of
-- `before` uses the steps: what two lists say from place i on, by what stands at i and what they say from i + 1 on.
-- Assumes nothing.
use mathlib.Core.Path.{◌≡◌, refl}
use mathlib.Core.Bool.{true, false}
use mathlib.Core.List.{List, [], ◌∷◌}
use Prim.Native.Nat.{ℕ, ◌+◌, ◌≤◌, ◌<◌, min}
use native.Mathlib.Numerals.{add-one}
use native.Mathlib.Decide.{dec_lt}
use native.Mathlib.Omega.{arith}
use borrow.Author.Tests.{eq-eqb, ne_eqb, lt-ltb, le-ltb, leb-true}
use lib.Dec.{eqb, ltb, leb}
use lib.ListN.{length, get_or, drop, length-take, length-drop, drop_of_length-le}
use lib.Seq.{drop-cons}
use Rattle.std.specs.Cmp.Lexicographic.{pointwise}
use Rattle.scope.specs.Limits.{MAX_NAME}
use Rattle.scope.specs.Names.{Texts, Name, text_of, bytes, in_text, name_ok, eq_bytes, lt_bytes}
use Rattle.names.proofs.Tests.{both}

-- the library's comparison of two slices says what `eq_bytes` says
pub pointwise_same : (a b : List ℕ) → pointwise eqb a b ≡ eq_bytes a b
unfolding eq_bytes
pointwise_same [] [] = refl
pointwise_same [] (y ∷ b) = refl
pointwise_same (x ∷ a) [] = refl
pointwise_same (x ∷ a) (y ∷ b) = rw (pointwise_same a b) refl

-- how one list comes before another
head_less : (x y : ℕ) (a b : List ℕ) → x < y → lt_bytes (x ∷ a) (y ∷ b) ≡ true
unfolding lt_bytes
head_less x y a b h = rw (lt-ltb x y h)

head_more : (x y : ℕ) (a b : List ℕ) → y < x → lt_bytes (x ∷ a) (y ∷ b) ≡ false
unfolding lt_bytes
head_more x y a b h = rw (le-ltb x y (omega arith), ne_eqb x y (λ e. omega arith))

head_same : (x y : ℕ) (a b : List ℕ) → x ≡ y → lt_bytes (x ∷ a) (y ∷ b) ≡ lt_bytes a b
unfolding lt_bytes
head_same x y a b h = rw (le-ltb x y (omega arith), eq-eqb x y h)

-- nothing comes before the empty list
none_before : (a : List ℕ) → lt_bytes a [] ≡ false
unfolding lt_bytes
none_before [] = refl
none_before (x ∷ a) = refl

-- one list is at its end
pub before_over : (a b : List ℕ) (i : ℕ) → i ≡ min (length a) (length b) → lt_bytes (drop i a) (drop i b) ≡ ltb (length a) (length b)
unfolding lt_bytes
before_over a b i h = go (dec_lt i (length b))
  where
    go : Dec (i < length b) → lt_bytes (drop i a) (drop i b) ≡ ltb (length a) (length b)
    go (yes k) =
        let l : length a ≤ i = omega arith in
        rw (drop_of_length-le a l, drop-cons b i 0 k, lt-ltb (length a) (length b) (omega arith))
    go (no k) =
        let l : length b ≤ i = omega arith in
        rw (drop_of_length-le b l, le-ltb (length a) (length b) (omega arith)) (none_before (drop i a))

module _ (a b : List ℕ) (i : ℕ) (h : i < length a) (k : i < length b) where
  pub before_other : (get_or a i 0 ≡ get_or b i 0 → ⊥) → lt_bytes (drop i a) (drop i b) ≡ ltb (get_or a i 0) (get_or b i 0)
  before_other z = go (dec_lt (get_or a i 0) (get_or b i 0))
    where
      go : Dec (get_or a i 0 < get_or b i 0) → lt_bytes (drop i a) (drop i b) ≡ ltb (get_or a i 0) (get_or b i 0)
      go (yes l) = rw (drop-cons a i 0 h, drop-cons b i 0 k, lt-ltb (get_or a i 0) (get_or b i 0) l) (head_less _ _ _ _ l)
      go (no l) =
          let m : get_or b i 0 < get_or a i 0 = omega (arith, z) in
          rw (drop-cons a i 0 h, drop-cons b i 0 k, le-ltb (get_or a i 0) (get_or b i 0) (omega arith)) (head_more _ _ _ _ m)

  pub before_step : get_or a i 0 ≡ get_or b i 0 → lt_bytes (drop i a) (drop i b) ≡ lt_bytes (drop (i + 1) a) (drop (i + 1) b)
  before_step e = rw (drop-cons a i 0 h, drop-cons b i 0 k, add-one) (head_same _ _ _ _ e)

-- a name that lies in its text has its own length
pub bytes_length : (x : Texts) (n : Name) → in_text x n ≡ true → length (bytes x n) ≡ n.len
unfolding bytes in_text
bytes_length x n h =
    let p = both (leb n.text 1) (leb (n.start + n.len) (length (text_of x n.text))) h in
    let q = leb-true (n.start + n.len) (length (text_of x n.text)) p.1 in
    simp (length-take, length-drop) (omega arith)

pub name_in_text : (x : Texts) (n : Name) → name_ok x n ≡ true → in_text x n ≡ true
unfolding name_ok
name_in_text x n h = (both (in_text x n) _ h).0

-- "names and paths 1 to 255 bytes"
pub name_length_lem : (x : Texts) (n : Name) → name_ok x n ≡ true → (1 ≤ length (bytes x n)) × (length (bytes x n) ≤ MAX_NAME)
unfolding name_ok
name_length_lem x n h =
    let l = bytes_length x n (name_in_text x n h) in
    let p = both (leb 1 n.len) (leb n.len MAX_NAME) (both (in_text x n) _ h).1 in
    (omega (arith, l, leb-true 1 n.len p.0), omega (arith, l, leb-true n.len MAX_NAME p.1))
