-- "From a type to its root": names and texts. "A name is a part of the rule text or of the chart text, compared as bytes".
use Rattle.std.specs.Prelude.{List, [], ◌∷◌, Bool, true, false, ◌&&◌, ◌||◌, ℕ, zero, suc, ◌+◌, eqb, ltb, leb, length, take, drop}
use Rattle.std.proofs.Math.Option.{Option, none, some}
use Rattle.scope.specs.Limits.{MAX_NAME, MAX_TEXT}

-- the two lent texts
pub record Texts : Type 0 where
  pub rule : List ℕ
  pub chart : List ℕ

-- a part of the rule text (0) or of the chart text (1)
pub record Name : Type 0 where
  pub text : ℕ
  pub start : ℕ
  pub len : ℕ

abbrev pub name : ℕ → ℕ → ℕ → Name
name x i n = record { text = x; start = i; len = n }

abbrev pub text_of : Texts → ℕ → List ℕ
text_of x zero = x.rule
text_of x (suc n) = x.chart

-- the bytes that a name is compared and printed by
unfoldable pub bytes : Texts → Name → List ℕ
bytes x n = take n.len (drop n.start (text_of x n.text))

-- the part lies in its text
unfoldable pub in_text : Texts → Name → Bool
in_text x n = leb n.text 1 && leb (n.start + n.len) (length (text_of x n.text))

-- "names and paths 1 to 255 bytes"
unfoldable pub name_ok : Texts → Name → Bool
name_ok x n = in_text x n && (leb 1 n.len && leb n.len MAX_NAME)

-- "texts 65,535 bytes"
abbrev pub texts_ok : Texts → Bool
texts_ok x = leb (length x.rule) MAX_TEXT && leb (length x.chart) MAX_TEXT

-- equal as bytes
unfoldable pub eq_bytes : List ℕ → List ℕ → Bool
eq_bytes [] [] = true
eq_bytes [] (y ∷ ys) = false
eq_bytes (x ∷ xs) [] = false
eq_bytes (x ∷ xs) (y ∷ ys) = eqb x y && eq_bytes xs ys

-- before, byte by byte; a prefix comes first
unfoldable pub lt_bytes : List ℕ → List ℕ → Bool
lt_bytes [] [] = false
lt_bytes [] (y ∷ ys) = true
lt_bytes (x ∷ xs) [] = false
lt_bytes (x ∷ xs) (y ∷ ys) = ltb x y || (eqb x y && lt_bytes xs ys)

-- "strictly ascending"
unfoldable pub ascending : List (List ℕ) → Bool
ascending [] = true
ascending (x ∷ []) = true
ascending (x ∷ y ∷ xs) = lt_bytes x y && ascending (y ∷ xs)

-- a name or none: its bytes, none at all where there is no name
abbrev pub bytes_or : Texts → Option Name → List ℕ
bytes_or x none = []
bytes_or x (some n) = bytes x n

-- a name that must be there, and one that may be missing
abbrev pub named : Texts → Option Name → Bool
named x none = false
named x (some n) = name_ok x n

abbrev pub named_or_none : Texts → Option Name → Bool
named_or_none x none = true
named_or_none x (some n) = name_ok x n
