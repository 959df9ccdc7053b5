-- A law of words of types that no proof of a function needs. Assumes nothing.
use mathlib.Core.Path.{◌≡◌}
use mathlib.Core.Bool.{true}
use Prim.Native.Nat.{ℕ, ◌+◌, ◌<◌}
use Rattle.scope.specs.Types.{ty, flip, INV_BIT, ty_of, word_of}
use Rattle.types.proofs.Laws.{ty_plain, ty_word}

-- a word without the bit, with it
pub inverse_low : (w : ℕ) → w < INV_BIT → ty_of (w + INV_BIT) ≡ flip true (ty_of w)
unfolding word_of
inverse_low w h = rw (ty_plain w h) (ty_word (ty true w) h)
