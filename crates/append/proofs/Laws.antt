-- Laws of a text in a lent buffer. A printer's contract is `Puts`: pieces are put together by `puts_then`, work may stop by `puts_full` where the
-- buffer is full, and `so_far_fits` and `so_far_full` say what the buffer holds when the text is whole. Assumes nothing.
use mathlib.Core.Path.{◌≡◌, refl, sym, ap, ◌∙◌}
use mathlib.Core.List.{List, [], ◌∷◌, ◌++◌, append_assoc, append-nil}
use mathlib.Core.Bool.{Bool, true, false}
use Prim.Native.Nat.{ℕ, zero, suc, ◌+◌, ◌*◌, ◌^◌, ◌≤◌, ◌<◌, ◌/◌, ◌%◌, min}
use native.Mathlib.Nat.{pow-succ'}
use native.Mathlib.Decide.{dec_lt}
use native.Mathlib.Omega.{arith}
use borrow.Author.Tests.{lt-ltb, le-ltb, ltb-true, ltb-false, eqb-true}
use lib.Dec.{eqb, ltb}
use lib.ListN.{length, take, drop, length-append, length-take, length-drop, drop_of_length-le}
use borrow.Rule.Slice.PartMut.{put_mid}
use lib.Seq.{take_all, take-append-le, take-append-add, take_at, drop_at, drop-drop, paste}
use Rattle.std.specs.Prelude as known
use Rattle.std.proofs.lemmas.Fmt as told
use Rattle.scope.specs.Show.{decimal_f, decimal}
use Rattle.append.specs.Appended.{filled, SoFar, Appended, Puts}
use Rattle.append.specs.declared.Out.{Out}

pub filled_length : (buf bs : List ℕ) → length (filled buf bs) ≡ length buf
unfolding filled
filled_length buf bs = simp (length-take, length-append, length-drop) (omega arith)

-- a text that fits, and one that does not
pub filled_fits : (buf bs : List ℕ) → length bs ≤ length buf → filled buf bs ≡ bs ++ drop (length bs) buf
unfolding filled
filled_fits buf bs h = take_all (length buf) (bs ++ drop (length bs) buf) (simp (length-append, length-drop) (omega arith))

pub filled_over : (buf bs : List ℕ) → length buf ≤ length bs → filled buf bs ≡ take (length buf) bs
unfolding filled
filled_over buf bs h = take-append-le (length buf) bs (drop (length bs) buf) h

-- nothing is written yet
pub so_far_start : (buf : List ℕ) → SoFar buf buf 0 []
so_far_start buf = record { holds = sym (filled_fits buf [] (omega arith)); place = omega arith }

-- a text keeps the buffer's length
pub so_far_length : {buf₀ buf : List ℕ} {at : ℕ} {bs : List ℕ} → SoFar buf₀ buf at bs → length buf ≡ length buf₀
so_far_length {buf₀} {buf} {at} {bs} p = ap length p.holds ∙ filled_length buf₀ bs

-- one piece after another
pub append_then : {buf buf' buf'' : List ℕ} {at at' at'' : ℕ} {p q : List ℕ}
    → Appended buf at buf' at' p → Appended buf' at' buf'' at'' q → Appended buf at buf'' at'' (p ++ q)
append_then {p = p} {q = q} a b = record { keeps = λ buf₀ bs h. rw (← append_assoc bs p q) (b.keeps buf₀ (bs ++ p) (a.keeps buf₀ bs h)) }

-- no piece
pub append_none : (buf : List ℕ) (at : ℕ) → Appended buf at buf at []
append_none buf at = record { keeps = λ buf₀ bs h. rw append-nil h }

-- the text is whole and fits
pub so_far_fits : {buf₀ buf : List ℕ} {at : ℕ} {bs : List ℕ} → SoFar buf₀ buf at bs → at ≤ length buf
    → (buf ≡ bs ++ drop (length bs) buf₀) × (at ≡ length bs)
so_far_fits {buf₀} {buf} {at} {bs} p h =
    let e : length buf ≡ length buf₀ = so_far_length p in
    (p.holds ∙ filled_fits buf₀ bs (omega (arith, p.place)), omega (arith, p.place))

-- the text is whole and does not fit
pub so_far_full : {buf₀ buf : List ℕ} {at : ℕ} {bs : List ℕ} → SoFar buf₀ buf at bs → length buf < at
    → (buf ≡ take (length buf₀) bs) × (length buf₀ < length bs)
so_far_full {buf₀} {buf} {at} {bs} p h =
    let e : length buf ≡ length buf₀ = so_far_length p in
    (p.holds ∙ filled_over buf₀ bs (omega (arith, p.place)), omega (arith, p.place))

-- what the test of a full buffer says
pub is_over : {b : Bool} {n at : ℕ} → b ≡ ltb n at → b ≡ true → n < at
is_over e h = ltb-true _ _ (sym e ∙ h)

pub has_room : {b : Bool} {n at : ℕ} → b ≡ ltb n at → b ≡ false → at ≤ n
has_room e h = ltb-false _ _ (sym e ∙ h)

-- a full buffer stays as it is, whatever would follow: work may stop
pub append_full : (buf : List ℕ) (at : ℕ) (p : List ℕ) → length buf < at → Appended buf at buf at p
append_full buf at p full = record { keeps = keeps }
  where
    keeps : (buf₀ bs : List ℕ) → SoFar buf₀ buf at bs → SoFar buf₀ buf at (bs ++ p)
    keeps buf₀ bs h =
        let e = so_far_full h full in
        let m : length buf₀ ≤ length bs = omega (arith, e.1) in
        let l : length (bs ++ p) ≡ length bs + length p = length-append bs p in
        record {
          holds = e.0 ∙ sym (take-append-le (length buf₀) bs p m) ∙ sym (filled_over buf₀ (bs ++ p) (omega arith));
          place = omega (arith, h.place, e.1, l);
        }

-- the same through what is lent
pub puts_then : {out out' out'' : Out} {p q : List ℕ} → Puts out out' p → Puts out' out'' q → Puts out out'' (p ++ q)
puts_then a b = record { text = append_then a.text b.text; same = b.same ∙ a.same; long = b.long ∙ a.long }

pub puts_none : (out : Out) → Puts out out []
puts_none out = record { text = append_none out.buf.now out.at; same = refl; long = refl }

pub puts_nothing : (out : Out) (p : List ℕ) → eqb (length p) 0 ≡ true → Puts out out p
puts_nothing out [] h = puts_none out
puts_nothing out (b ∷ p) h = absurd (omega (arith, eqb-true))

pub puts_full : (out : Out) (p : List ℕ) → length out.buf.now < out.at → Puts out out p
puts_full out p full = record { text = append_full out.buf.now out.at p full; same = refl; long = refl }

-- n bytes of a piece copied over the k bytes from `at` on, which are as many and then are last
pub part_copied : (buf : List ℕ) (at : ℕ) (piece : List ℕ) (n k : ℕ) (last : List ℕ) → k ≡ n → last ≡ take n piece → put_mid at k buf last ≡ paste buf at piece n
part_copied buf at piece n k last whole copy = rw (whole, copy, drop-drop n at buf) (sym (append_assoc (take at buf) (take n piece) (drop (at + n) buf)))

-- n bytes of a piece after a text that fits
copied_after : (buf₀ buf : List ℕ) (at : ℕ) (bs piece : List ℕ) (n : ℕ) → SoFar buf₀ buf at bs → at ≤ length buf
    → paste buf at piece n ≡ (bs ++ take n piece) ++ drop (at + n) buf₀
copied_after buf₀ buf at bs piece n h room =
    let e = so_far_fits h room in
    let front : take at buf ≡ bs = ap (take at) e.0 ∙ take_at bs (drop (length bs) buf₀) at (sym e.1) in
    let back : drop at buf ≡ drop at buf₀ =
    ap (drop at) e.0 ∙ drop_at bs (drop (length bs) buf₀) at (sym e.1) ∙ ap (λ (k : ℕ). drop k buf₀) (sym e.1) in
    let rest : drop (at + n) buf ≡ drop (at + n) buf₀ = sym (drop-drop n at buf) ∙ ap (drop n) back ∙ drop-drop n at buf₀ in
    rw (front, rest)

-- n bytes of a piece were copied after a text that fits: it's enough to know what the whole then is
append_bytes : (buf : List ℕ) (at : ℕ) (piece : List ℕ) (n : ℕ) (buf' : List ℕ) (r : ℕ) → at + n ≤ length buf → buf' ≡ paste buf at piece n
    → ((buf₀ bs : List ℕ) → length buf ≡ length buf₀ → at ≡ length bs → length (bs ++ piece) ≡ length bs + length piece
    → ((bs ++ take n piece) ++ drop (at + n) buf₀ ≡ filled buf₀ (bs ++ piece)) × (r ≡ min (length (bs ++ piece)) (length buf₀ + 1)))
    → Appended buf at buf' r piece
append_bytes buf at piece n buf' r room is whole = record { keeps = keeps }
  where
    keeps : (buf₀ bs : List ℕ) → SoFar buf₀ buf at bs → SoFar buf₀ buf' r (bs ++ piece)
    keeps buf₀ bs h =
        let w = whole buf₀ bs (so_far_length h) (so_far_fits h (omega arith)).1 (length-append bs piece) in
        record { holds = is ∙ (copied_after buf₀ buf at bs piece n h (omega arith) ∙ w.0); place = w.1 }

-- the whole piece was copied
pub append_copied : (buf : List ℕ) (at : ℕ) (piece : List ℕ) (n : ℕ) (buf' : List ℕ) (r : ℕ)
    → at + n ≤ length buf → n ≡ length piece → buf' ≡ paste buf at piece n → r ≡ at + n → Appended buf at buf' r piece
append_copied buf at piece n buf' r room whole is next =
    append_bytes buf at piece n buf' r room is
    (λ buf₀ bs s a l.
    let k : at + n ≡ length (bs ++ piece) = omega arith in (
      ap (λ (x : List ℕ). (bs ++ x) ++ drop (at + n) buf₀) (take_all n piece (omega arith))
          ∙ (ap (λ (m : ℕ). (bs ++ piece) ++ drop m buf₀) k ∙ sym (filled_fits buf₀ (bs ++ piece) (omega arith))),
      omega arith,
    ))

-- the buffer's end came before the piece's
pub append_cut : (buf : List ℕ) (at : ℕ) (piece : List ℕ) (n : ℕ) (buf' : List ℕ) (r : ℕ)
    → at + n ≡ length buf → n < length piece → buf' ≡ paste buf at piece n → r ≡ length buf + 1 → Appended buf at buf' r piece
append_cut buf at piece n buf' r end more is next =
    append_bytes buf at piece n buf' r (omega arith) is
    (λ buf₀ bs s a l.
    let k : length buf₀ ≡ length bs + n = omega arith in
    let past : length buf₀ ≤ at + n = omega arith in (
      ap (λ (x : List ℕ). (bs ++ take n piece) ++ x) (drop_of_length-le buf₀ past)
          ∙ (append-nil (bs ++ take n piece)
          ∙ (sym (take-append-add bs piece n) ∙ (ap (λ (m : ℕ). take m (bs ++ piece)) (sym k) ∙ sym (filled_over buf₀ (bs ++ piece) (omega arith))))),
      omega arith,
    ))

-- scope's decimals are those that the library writes
decimals_by : (f n : ℕ) → n < 10 ^ (f + 1) → n < 2 ^ 64 → known.decimal n ≡ decimal_f f n
unfolding decimal_f
decimals_by zero n h s = let e : n % 10 ≡ n = omega arith in rw e (told.decimal_digit n (omega arith))
decimals_by (suc f) n h s =
    elim (dec_lt n 10) [
      | yes l ↦ rw (decimal_f, lt-ltb n 10 l) (told.decimal_digit n l)
      | no l ↦
          let a : suc f + 1 ≡ suc (f + 1) = omega arith in
          let p : n < 10 * 10 ^ (f + 1) = rw (a, pow-succ' 10 (f + 1)) at h in
          rw (decimal_f, le-ltb n 10 (omega arith), told.decimal_step n (omega arith) s, decimals_by f (n / 10) (omega arith) (omega arith))
    ]

pub decimals_same : (n : ℕ) → n < 2 ^ 32 → known.decimal n ≡ decimal n
unfolding decimal
decimals_same n h = decimals_by 20 n (omega arith) (omega arith)
