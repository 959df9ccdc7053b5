-- What was loaded reads back as the records: the chart of their words has exactly these. Assumes nothing.
use mathlib.Core.Path.{◌≡◌, refl, ap, ◌∙◌}
use mathlib.Core.List.{List, [], ◌∷◌, map}
use Prim.Native.Nat.{ℕ, ◌/◌, ◌%◌}
use native.Mathlib.Omega.{arith}
use native.Mathlib.Nat.{mul-div_cancel, mul-mod_left}
use lib.ListN.{length}
use borrow.Author.Tests.{eq-eqb}
use Rattle.scope.specs.Chart.{Env}
use Rattle.scope.specs.Chart as scope
use Rattle.names.specs.Place.{name_of, texts}
use Rattle.chart.specs.declared.Beside.{Beside}
use Rattle.chart.specs.Words.{RECORD_WORDS, runs, record_in, records_of}
use Rattle.sound.specs.Tests.{env_in}
use Rattle.records.specs.declared.Record.{Record}
use Rattle.records.specs.Loaded.{record_means, chart_words}
use Rattle.records.proofs.Laws.{words_long}

runs_read : (rs : List Record) → runs RECORD_WORDS record_in (length rs) (chart_words rs) ≡ map record_means rs
unfolding runs chart_words
runs_read [] = refl
runs_read (r ∷ rs) = ap (λ xs. record_means r ∷ xs) (runs_read rs)

count_read : (rs : List Record) → length (chart_words rs) / RECORD_WORDS ≡ length rs
count_read rs = ap (λ (n : ℕ). n / RECORD_WORDS) (words_long rs) ∙ mul-div_cancel (length rs) (omega arith)

whole_read : (rs : List Record) → length (chart_words rs) % RECORD_WORDS ≡ 0
whole_read rs = ap (λ (n : ℕ). n % RECORD_WORDS) (words_long rs) ∙ mul-mod_left (length rs) RECORD_WORDS

-- as many records as were lent, and each with its own fields
pub words_read : (rs : List Record) → records_of (chart_words rs) ≡ map record_means rs
words_read rs = rw (count_read rs) (runs_read rs)

module _ (rs : List Record) (b : Beside) (rule text : List ℕ) where
  -- the records that were lent, and what is lent beside them
  abbrev pub meant : List scope.Record → Env
  meant xs = record { records = xs; fn_trait = b.fn_trait; sigils = map name_of b.sigils; texts = texts rule text }

  -- what every call reads, of these words
  pub env_read : env_in (chart_words rs) b rule text ≡ meant (map record_means rs)
  unfolding env_in
  env_read = rw (eq-eqb (length (chart_words rs) % RECORD_WORDS) 0 (whole_read rs)) (ap meant (words_read rs))
