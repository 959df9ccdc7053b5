-- The chart as numbers: ten for each record, in the order sort, name (text, start, length), path (text, start, length), def, dual, trait.
use Rattle.std.specs.Prelude.{List, [], ◌∷◌, ℕ, zero, suc, ◌+◌, ◌/◌, length, get_or, drop}
use Rattle.scope.specs.Names.{Name, name}
use Rattle.scope.specs.Chart.{Record, no_record}

abbrev pub RECORD_WORDS : ℕ
RECORD_WORDS = 10

-- n values of w numbers each, as f reads them off the numbers' front
unfoldable pub runs {ℓ} : {A : Type ℓ} → ℕ → (List ℕ → A) → ℕ → List ℕ → List A
runs w f zero ws = []
runs w f (suc n) ws = f ws ∷ runs w f n (drop w ws)

-- the name in the three numbers from k on
abbrev pub name_at : ℕ → List ℕ → Name
name_at k ws = name (get_or ws k 0) (get_or ws (k + 1) 0) (get_or ws (k + 2) 0)

-- the record in the first ten numbers
abbrev pub record_in : List ℕ → Record
record_in ws = record {
  sort = get_or ws 0 0;
  name = name_at 1 ws;
  path = name_at 4 ws;
  def = get_or ws 7 0;
  dual = get_or ws 8 0;
  trait = get_or ws 9 0;
}

-- the way back: a record's ten numbers
abbrev pub words_of : Record → List ℕ
words_of r =
    r.sort
    ∷ r.name.text
    ∷ r.name.start
    ∷ r.name.len
    ∷ r.path.text
    ∷ r.path.start
    ∷ r.path.len
    ∷ r.def
    ∷ r.dual
    ∷ r.trait
    ∷ []

-- as many records as have all their numbers
abbrev pub records_of : List ℕ → List Record
records_of ws = runs RECORD_WORDS record_in (length ws / RECORD_WORDS) ws

-- the record of a definition's number, the record of none past the end
abbrev pub record_of : List ℕ → ℕ → Record
record_of ws n = get_or (records_of ws) n no_record
