-- A text at the front of a lent buffer.
use Rattle.std.specs.Prelude.{◌≡◌, List, ◌++◌, ℕ, ◌≤◌, length, drop}
use Rattle.scope.specs.Limits.{SHEET_TEXT}

-- the buffer was `out`; now bs stands at its front, n is the text's length, and the bytes past it are as found
pub record Front (out out' : List ℕ) (n : ℕ) (bs : List ℕ) : Type 0 where
  pub bytes : out' ≡ bs ++ drop (length bs) out
  pub end : n ≡ length bs
  pub short : n ≤ SHEET_TEXT
