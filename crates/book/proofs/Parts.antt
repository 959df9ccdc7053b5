-- A part of a list, words a to e, read and written: what was written is read there, and what lies before it is as it was. These hold of any
-- part that a function lends, `&s[a..e]` and `&mut s[a..e]`, in the shapes that these have.
-- Assumes nothing.
use mathlib.Core.Path.{◌≡◌, refl}
use mathlib.Core.List.{List, ◌++◌}
use Prim.Native.Nat.{ℕ, ◌-◌, ◌≤◌}
use native.Mathlib.Omega.{arith}
use native.Mathlib.Decide.{dec_le}
use lib.ListN.{length, take, drop}
use Rattle.layout.specs.Words.{between}
use Rattle.layout.proofs.Lists.{part_here, part_before, length_part}
use Rattle.book.specs.Places.{put_part}
use Rattle.book.proofs.Geometry.{mid_mid}

module _ (a e : ℕ) (xs ys : List ℕ) (order : a ≤ e) (inside : e ≤ length xs) (len : length ys ≡ e - a) where
  pub put_length : length (put_part xs a e ys) ≡ length xs
  put_length = length_part a (e - a) xs ys len (omega arith)

  pub put_here : between (put_part xs a e ys) a e ≡ ys
  put_here = part_here a (e - a) xs ys len (omega arith)

  pub put_before : (b d : ℕ) → d ≤ a → between (put_part xs a e ys) b d ≡ between xs b d
  put_before b d h = go (dec_le b d)
    where
      go : Dec (b ≤ d) → between (put_part xs a e ys) b d ≡ between xs b d
      go (yes l) = part_before b (d - b) a xs (ys ++ drop (e - a) (drop a xs)) (omega arith) (omega arith)
      go (no l) = let z : d - b ≡ 0 = omega arith in rw z refl

  pub put_first : (b : ℕ) → b ≤ a → take b (put_part xs a e ys) ≡ take b xs
  put_first b h = part_before 0 b a xs (ys ++ drop (e - a) (drop a xs)) (omega arith) (omega arith)

-- words of the first w
pub between_take : (b d w : ℕ) (xs : List ℕ) → d ≤ w → w ≤ length xs → between (take w xs) b d ≡ between xs b d
between_take b d w xs h g = go (dec_le b d)
  where
    go : Dec (b ≤ d) → between (take w xs) b d ≡ between xs b d
    go (yes l) = mid_mid b (d - b) w xs (omega arith) g
    go (no l) = let z : d - b ≡ 0 = omega arith in rw z refl
