-- A text that is appended to nothing and fits stands at the front. The longest that is printed for an answer is `refused ` and a number.
-- Assumes nothing.
use mathlib.Core.Path.{◌≡◌, refl, ◌∙◌}
use mathlib.Core.Bool.{Bool, true, false}
use mathlib.Core.List.{List, [], ◌++◌}
use Prim.Native.Nat.{ℕ, zero, suc, ◌+◌, ◌/◌, ◌≤◌}
use native.Mathlib.Omega.{arith}
use lib.Dec.{ltb}
use lib.ListN.{length, length-append}
use Rattle.scope.specs.Limits.{SHEET_TEXT}
use Rattle.scope.specs.Show.{decimal_f, decimal}
use Rattle.append.specs.Appended.{Appended}
use Rattle.append.proofs.Laws.{so_far_start, filled_fits, append_then}
use Rattle.sheet_say.specs.Front.{Front}

digits : (f n : ℕ) → length (decimal_f f n) ≤ f + 1
unfolding decimal_f
digits zero n = omega arith
digits (suc f) n = go (ltb n 10) refl (digits f (n / 10))
  where
    go : (b : Bool) → ltb n 10 ≡ b → length (decimal_f f (n / 10)) ≤ f + 1 → length (decimal_f (suc f) n) ≤ suc f + 1
    go true q h = rw (decimal_f, q) (omega arith)
    go false q h = rw (decimal_f, q, length-append) (omega arith)

decimal_short : (n : ℕ) → length (decimal n) ≤ 21
unfolding decimal
decimal_short n = digits 20 n

module _ {out out' : List ℕ} {r : ℕ} (room : SHEET_TEXT ≤ length out) where
  pub front : (bs : List ℕ) → length bs ≤ 30 → Appended out 0 out' r bs → Front out out' r bs
  front bs l a =
      let f = a.keeps out [] (so_far_start out) in
      record { bytes = f.holds ∙ filled_fits out bs (omega arith); end = omega (arith, f.place); short = omega (arith, f.place) }

  -- some bytes and then a number
  pub front_number : {mid : List ℕ} {at : ℕ} (bs : List ℕ) (n : ℕ) → length bs ≤ 9 → Appended out 0 mid at bs → Appended mid at out' r (decimal n)
      → Front out out' r (bs ++ decimal n)
  front_number bs n l a b =
      front (bs ++ decimal n) (omega (arith, length-append bs (decimal n), decimal_short n)) (append_then a b)
