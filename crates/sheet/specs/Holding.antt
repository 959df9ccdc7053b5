-- What the program keeps between two reads: a sound store, and a buffer that holds the bytes of the line so far.
use Rattle.std.specs.Prelude.{List, ℕ}
use Rattle.append.specs.Appended.{SoFar}
use Rattle.sheet_calls.specs.Store.{SheetStore}
use Rattle.std.specs.Prelude.{Some, None, Option}

-- the line has the bytes bs so far, and the buffer, which was line₀ when it began, holds them as far as they are kept
pub record Holding (line : List ℕ) (at : ℕ) : Type 0 where
  pub line₀ : List ℕ
  pub bs : List ℕ
  pub so_far : SoFar line₀ line at bs

pub record Goes (h ws ks line : List ℕ) (at : ℕ) : Type 0 where
  pub store : SheetStore h ws ks
  pub holds : Holding line at

-- after a piece the line goes on; where nobody takes the output any more, nothing is kept
abbrev pub Kept : List ℕ → List ℕ → List ℕ → List ℕ → Option ℕ → Type 0
Kept h ws ks line (Some at) = Goes h ws ks line at
Kept h ws ks line None = Unit {0}
