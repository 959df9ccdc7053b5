-- Where an input is cut into lines.
use Rattle.std.specs.Prelude.{◌≡◌, List, ℕ, ◌<◌, eqb, length}
use Rattle.std.specs.List.{slice_split}
use Rattle.scope.specs.Sheet.{lines}

-- the parts between newlines
abbrev pub parts : List ℕ → List (List ℕ)
parts s = slice_split (λ b. eqb b 10) s

-- the parts of t are the lines of s, if s has any
abbrev pub CutIs : List ℕ → List ℕ → Type 0
CutIs s t = 0 < length s → lines s ≡ parts t
