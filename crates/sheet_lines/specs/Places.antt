-- Where a byte stands next, and the words of a line from a place on.
use Rattle.std.specs.Prelude.{List, [], ◌∷◌, ℕ, suc, ◌+◌, eqb, leb, length, drop}
use Rattle.scope.specs.Base.{pick}
use Rattle.scope.specs.Sheet.{words}

-- how many elements stand before the first b: all, where there is none
unfoldable pub index_of : ℕ → List ℕ → ℕ
index_of b [] = 0
index_of b (x ∷ xs) = pick (eqb x b) 0 (suc (index_of b xs))

-- the first place from i on where b stands; the list's length if there is none and i is not past it
abbrev pub next_place : ℕ → List ℕ → ℕ → ℕ
next_place b s i = i + index_of b (drop i s)

-- the words from place i on; a place past the end has none, and the end itself has an empty one
unfoldable pub words_from : List ℕ → ℕ → List (List ℕ)
words_from l i = pick (leb i (length l)) (words (drop i l)) []
