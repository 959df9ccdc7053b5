-- A piece of an input, up to the end of the line that it goes on with.
use Rattle.std.specs.Prelude.{◌≡◌, List, [], ◌∷◌, ◌++◌, ℕ, ◌+◌, ◌≤◌, length, take}
use Rattle.append.specs.Appended.{SoFar}
use Rattle.scope.specs.Limits.{MAX_LINE}
use Rattle.scope.specs.Sheet.{parse, sheet_line, sheet_lines}
use Rattle.layout.specs.Words.{store_in}
use Rattle.store.specs.Holds.{Became}
use Rattle.sheet_lines.specs.Places.{next_place}
use Rattle.sheet_calls.specs.Store.{SheetStore}
use Rattle.sheet_feed.specs.declared.Fed.{Fed}
use Rattle.sheet_feed.specs.declared.Fed.TheVariants.{More, Line}

-- of a line so many bytes are kept: one more than a line may have
abbrev pub LINE_KEPT : ℕ
LINE_KEPT = MAX_LINE + 1

-- a line of the bytes bs was run: what it prints and its newline are n bytes at the front of the text
pub record Answered (h ws ks h' ws' ks' text' : List ℕ) (n : ℕ) (bs : List ℕ) : Type 0 where
  pub printed : take n text' ≡ (sheet_line (store_in h ws ks) (parse bs)).bytes ++ (10 ∷ [])
  pub store : Became h ws ks h' ws' ks' (sheet_line (store_in h ws ks) (parse bs)).store

-- the line in the buffer was run, whatever its bytes are
pub record LineRan (h ws ks h' ws' ks' line : List ℕ) (at : ℕ) (text' : List ℕ) (n : ℕ) : Type 0 where
  pub ran : (line₀ bs : List ℕ) → SoFar line₀ line at bs → Answered h ws ks h' ws' ks' text' n bs
  pub fits : n ≤ length text'
  pub sound : SheetStore h' ws' ks'

-- the piece has no newline: the line goes on with all of it, and the store is as found
pub record GoesOn (h ws ks h' ws' ks' line : List ℕ) (at : ℕ) (line' piece : List ℕ) (q : ℕ) : Type 0 where
  pub none : next_place 10 piece 0 ≡ length piece
  pub so_far : (line₀ bs : List ℕ) → SoFar line₀ line at bs → SoFar line₀ line' q (bs ++ piece)
  pub head : h' ≡ h
  pub nodes : ws' ≡ ws
  pub kids : ks' ≡ ks

-- the piece had a newline, and k bytes of it were taken: the line that had bs so far ended there and was run
pub record Ended (h ws ks h' ws' ks' line : List ℕ) (at : ℕ) (piece text' : List ℕ) (n k : ℕ) : Type 0 where
  pub took : k ≡ next_place 10 piece 0 + 1
  pub inside : k ≤ length piece
  pub fits : n ≤ length text'
  pub answered : (line₀ bs : List ℕ) → SoFar line₀ line at bs
      → Answered h ws ks h' ws' ks' text' n (bs ++ take (next_place 10 piece 0) piece)
  pub sound : SheetStore h' ws' ks'

abbrev pub Feeds : List ℕ → List ℕ → List ℕ → List ℕ → List ℕ → List ℕ → List ℕ → ℕ → List ℕ → List ℕ → List ℕ → Fed → Type 0
Feeds h ws ks h' ws' ks' line at line' piece text' (More q) = GoesOn h ws ks h' ws' ks' line at line' piece q
Feeds h ws ks h' ws' ks' line at line' piece text' (Line n k) = Ended h ws ks h' ws' ks' line at piece text' n k

-- a last line without its newline, if there is one
abbrev pub last_lines : List ℕ → List (List ℕ)
last_lines [] = []
last_lines (b ∷ bs) = (b ∷ bs) ∷ []

-- the input ended where the line had bs so far: what is printed for it is n bytes at the front of the text
pub record LastRan (h ws ks line : List ℕ) (at : ℕ) (text' : List ℕ) (n : ℕ) : Type 0 where
  pub printed : (line₀ bs : List ℕ) → SoFar line₀ line at bs → take n text' ≡ sheet_lines (store_in h ws ks) (last_lines bs)
  pub fits : n ≤ length text'
