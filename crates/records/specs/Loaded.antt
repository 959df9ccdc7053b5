-- What a record of the slice means, and the words that the records become: ten for each, in `chart`'s order, at the front of a lent list.
use Rattle.std.specs.Prelude.{◌≡◌, Bool, List, [], ◌∷◌, ◌++◌, ℕ, ◌*◌, ◌/◌, leb, length, drop}
use Rattle.std.proofs.Math.Option.{Option, none, some}
use Rattle.scope.specs.Base.{pick}
use Rattle.scope.specs.Refusals.{SHORT}
use Rattle.scope.specs.Chart as scope
use Rattle.names.specs.Place.{name_of, no_name}
use Rattle.chart.specs.Words.{RECORD_WORDS, words_of}
use Rattle.records.specs.declared.Record.{Record}

abbrev pub record_means : Record → scope.Record
record_means r = record {
  sort = r.sort;
  name = name_of r.name;
  path = name_of r.path;
  def = r.def;
  dual = r.dual;
  trait = r.trait_number;
}

-- what stands for a record past the end
abbrev pub no_record : Record
no_record = record { sort = 0; name = no_name; path = no_name; def = 0; dual = 0; trait_number = 0 }

-- a record's ten words
abbrev pub numbers : Record → List ℕ
numbers r = words_of (record_means r)

-- the words of all records, one after another
unfoldable pub chart_words : List Record → List ℕ
chart_words [] = []
chart_words (r ∷ rs) = numbers r ++ chart_words rs

-- the list ws with the words of all records at its front
abbrev pub loaded : List ℕ → List Record → List ℕ
loaded ws rs = chart_words rs ++ drop (length rs * RECORD_WORDS) ws

-- n records have room in so many words
abbrev pub fits : ℕ → ℕ → Bool
fits n room = leb n (room / RECORD_WORDS)

-- "the answer's buffer is too short" where they have none
abbrev pub short_by : ℕ → ℕ → Option ℕ
short_by n room = pick (fits n room) none (some SHORT)

-- the list was ws and is now ws', and o is the refusal that is told, if one stands
pub record LoadPromised (rs : List Record) (ws ws' : List ℕ) (o : Option ℕ) : Type 0 where
  pub code : o ≡ short_by (length rs) (length ws)
  pub words : ws' ≡ pick (fits (length rs) (length ws)) (loaded ws rs) ws
