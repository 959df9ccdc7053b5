-- A word below WORD and a type whose node number is below INV-BIT say the same: the high bit is the inversion, the rest the node.
-- Callers use these laws and never open ty_of or word_of.
-- Assumes nothing.
use mathlib.Core.Path.{◌≡◌, refl, ap, sym, ◌∙◌}
use mathlib.Core.Bool.{Bool, true, false}
use Prim.Native.Nat.{ℕ, ◌+◌, ◌-◌, ◌*◌, ◌^◌, ◌%◌, ◌<◌, ◌≤◌}
use native.Mathlib.Decide.{dec_lt}
use native.Mathlib.Nat.{zero-add}
use native.Mathlib.Omega.{arith}
use lib.Bits.{bit_xor, xor_block, xor_zero_r}
use lib.Dec.{leb}
use borrow.Author.Tests.{le-leb, lt-leb, leb-true, leb-false}
use Rattle.scope.specs.Base.{xor}
use Rattle.scope.specs.Types.{Ty, ty, flip, INV_BIT, ty_of, word_of}
use Rattle.types.specs.declared.Inverted.{Inverted}

-- what an inversion holds says which it is

pub inverted_eq : (s t : Inverted) → s.0 ≡ t.0 → s ≡ t
inverted_eq s t e = ap (λ (b : Bool). record { 0 = b }) e

-- what a word of 32 bits is less than
abbrev pub WORD : ℕ
WORD = INV_BIT + INV_BIT

xor_false : (a : Bool) → xor a false ≡ a
xor_false true = refl
xor_false false = refl

-- words

pub idx_below : (w : ℕ) → (ty_of w).idx < INV_BIT
unfolding ty_of
idx_below w = omega arith

-- a node number is its type, not inverted
pub ty_plain : (n : ℕ) → n < INV_BIT → ty_of n ≡ ty false n
unfolding ty_of
ty_plain n h = let e : n % INV_BIT ≡ n = omega arith in rw (lt-leb INV_BIT n h, e)

-- a word with the bit is the inverse of what it is without
ty_high : (w : ℕ) → INV_BIT ≤ w → w < WORD → ty_of w ≡ ty true (w - INV_BIT)
unfolding ty_of
ty_high w l h = let e : w % INV_BIT ≡ w - INV_BIT = omega arith in rw (le-leb INV_BIT w l, e)

-- what `inverse` does to a word with the bit
pub inverse_high : (w : ℕ) → INV_BIT ≤ w → w < WORD → ty_of (w - INV_BIT) ≡ flip true (ty_of w)
inverse_high w l h = rw (ty_high w l h) (ty_plain (w - INV_BIT) (omega arith))

-- a type's word without the bit, and with it
word_low : (n : ℕ) → word_of (ty false n) ≡ n
unfolding word_of
word_low n = refl

word_high : (n : ℕ) → word_of (ty true n) ≡ n + INV_BIT
unfolding word_of
word_high n = refl

ty_word_by : (b : Bool) (n : ℕ) → n < INV_BIT → ty_of (word_of (ty b n)) ≡ ty b n
ty_word_by false n h = rw (word_low n) (ty_plain n h)
ty_word_by true n h =
    let e : n + INV_BIT - INV_BIT ≡ n = omega arith in
    rw (word_high n) (ty_high (n + INV_BIT) (omega arith) (omega arith) ∙ ap (ty true) e)

-- a type is read back from its word
pub ty_word : (t : Ty) → t.idx < INV_BIT → ty_of (word_of t) ≡ t
ty_word t h = ty_word_by t.inv t.idx h

word_ty_by : (b : Bool) (w : ℕ) → w < WORD → leb INV_BIT w ≡ b → word_of (ty b (w % INV_BIT)) ≡ w
unfolding word_of
word_ty_by true w h e = let l : INV_BIT ≤ w = leb-true INV_BIT w e in omega arith
word_ty_by false w h e = let l : w < INV_BIT = leb-false INV_BIT w e in omega arith

-- a word is read back from its type
word_ty : (w : ℕ) → w < WORD → word_of (ty_of w) ≡ w
unfolding ty_of
word_ty w h = word_ty_by (leb INV_BIT w) w h refl

-- the word of which a type is known
pub word_is : {t : Ty} (w : ℕ) → w < WORD → ty_of w ≡ t → w ≡ word_of t
word_is w h e = sym (word_ty w h) ∙ ap word_of e

-- what `new` makes of a node number
pub ty_new : (i : Bool) (n : ℕ) → n < INV_BIT → flip i (ty_of n) ≡ ty i n
ty_new i n h = rw (ty_plain n h) (ap (λ (b : Bool). ty b n) (xor_false i))

-- what `inverse` does to a word: the bit is flipped, and what is below it stays
flipped_by : (w a r : ℕ) → w ≡ a * 2 ^ 31 + r → r < INV_BIT → bit_xor w INV_BIT ≡ bit_xor a 1 * 2 ^ 31 + r
flipped_by w a r e l =
    ap (λ (v : ℕ). bit_xor v INV_BIT) e ∙ (xor_block 31 a 1 r 0 l (omega arith) ∙ ap (λ (v : ℕ). bit_xor a 1 * 2 ^ 31 + v) (xor_zero_r r))

pub inverse_word : (w : ℕ) → w < WORD → ty_of (bit_xor w INV_BIT) ≡ flip true (ty_of w)
inverse_word w h = go (dec_lt w INV_BIT)
  where
    go : Dec (w < INV_BIT) → ty_of (bit_xor w INV_BIT) ≡ flip true (ty_of w)
    go (yes l) =
        let e = flipped_by w 0 w (omega arith) l in
        rw (e, ty_plain w l) (ty_high (INV_BIT + w) (omega arith) (omega arith) ∙ ap (ty true) (omega arith))
    go (no l) =
        let e = flipped_by w 1 (w - INV_BIT) (omega arith) (omega arith) in
        rw (e, ty_high w (omega arith) h, zero-add) (ty_plain (w - INV_BIT) (omega arith))
