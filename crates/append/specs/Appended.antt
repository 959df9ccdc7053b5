-- A text that is written from the front of a lent buffer, piece by piece. A text longer than the buffer is kept as far as there is room: "7 from a
-- printer fills the buffer with the text's first bytes".
use Rattle.std.specs.Prelude.{◌≡◌, List, ◌++◌, ℕ, ◌+◌, min, length, take, drop}
use Rattle.append.specs.declared.Out.{Out}

-- what a buffer holds once bytes are written at its front: as many as there is room for, the rest as found
unfoldable pub filled : List ℕ → List ℕ → List ℕ
filled buf bs = take (length buf) (bs ++ drop (length bs) buf)

-- the text so far is bs: buf₀ was lent, buf is what it holds now, and at is the text's length, or one more than the buffer's where the text did not fit
pub record SoFar (buf₀ buf : List ℕ) (at : ℕ) (bs : List ℕ) : Type 0 where
  pub holds : buf ≡ filled buf₀ bs
  pub place : at ≡ min (length bs) (length buf₀ + 1)

-- a piece is appended to whatever the text was; the buffer and the place become buf' and r
pub record Appended (buf : List ℕ) (at : ℕ) (buf' : List ℕ) (r : ℕ) (piece : List ℕ) : Type 0 where
  pub keeps : (buf₀ bs : List ℕ) → SoFar buf₀ buf at bs → SoFar buf₀ buf' r (bs ++ piece)

-- a piece is appended through what is lent, whose buffer stays the one that it was, and as long, wherever the text has come to
pub record Puts (out out' : Out) (piece : List ℕ) : Type 0 where
  pub text : Appended out.buf.now out.at out'.buf.now out'.at piece
  pub same : out'.buf.ghost_name ≡ out.buf.ghost_name
  pub long : length out'.buf.now ≡ length out.buf.now
