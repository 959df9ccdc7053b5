-- Laws of the chart's numbers: the k-th number of the n-th record stands at n * 10 + k, and a number that the chart lacks reads as the record of none.
-- Assumes nothing.
use mathlib.Core.Path.{◌≡◌, refl, ap, ◌∙◌}
use mathlib.Core.Bool.{Bool, ◌&&◌}
use mathlib.Core.List.{List, [], ◌∷◌, map}
use Prim.Native.Nat.{ℕ, zero, suc, ◌+◌, ◌*◌, ◌/◌, ◌%◌, ◌<◌}
use native.Mathlib.Nat.{add-zero, zero-add, zero-mul, suc-mul}
use native.Mathlib.Omega.{arith}
use lib.Dec.{eqb, leb}
use lib.ListN.{length, get_or, drop}
use lib.Seq.{drop-drop, get_or-drop}
use Rattle.std.specs.List.{list_all}
use Rattle.scope.specs.Base.{all, from}
use Rattle.scope.specs.Limits.{MAX_RECORDS}
use Rattle.scope.specs.Names as scope
use Rattle.scope.specs.Names.{texts_ok}
use Rattle.scope.specs.Chart.{Record, no_record, record_ok, fn_trait_ok, sigils_ok, chart_ok}
use Rattle.names.specs.declared.Name.{Name}
use Rattle.names.specs.Place.{name_of, texts}
use Rattle.chart.specs.declared.Beside.{Beside}
use Rattle.chart.specs.Env.{env_of, chart_in, chart_words_ok}
use Rattle.chart.specs.Words.{RECORD_WORDS, runs, record_in, words_of, records_of, record_of}

-- a run of values of w numbers each
module _ {A : Type 0} (w : ℕ) (f : List ℕ → A) where
  pub runs_length : (n : ℕ) (ws : List ℕ) → length (runs w f n ws) ≡ n
  unfolding runs
  runs_length zero ws = refl
  runs_length (suc n) ws = ap suc (runs_length n (drop w ws))

  pub runs_at : (n : ℕ) (ws : List ℕ) (k : ℕ) (d : A) → k < n → get_or (runs w f n ws) k d ≡ f (drop (k * w) ws)
  unfolding runs
  runs_at zero ws k d h = absurd (omega arith)
  runs_at (suc n) ws zero d h = rw zero-mul
  runs_at (suc n) ws (suc k) d h =
      let e : w + k * w ≡ suc k * w = rw suc-mul (omega arith) in
      runs_at n (drop w ws) k d (omega arith) ∙ ap f (drop-drop (k * w) w ws ∙ ap (λ (j : ℕ). drop j ws) e)

pub records_length : (ws : List ℕ) → length (records_of ws) ≡ length ws / RECORD_WORDS
records_length ws = runs_length RECORD_WORDS record_in (length ws / RECORD_WORDS) ws

-- a record's numbers are those that it was read from
listed : (f : ℕ → ℕ) (i n k d : ℕ) → k < n → get_or (map f (from i n)) k d ≡ f (i + k)
listed f i zero k d h = absurd (omega arith)
listed f i (suc n) zero d h = rw add-zero
listed f i (suc n) (suc k) d h = listed f (suc i) n k d (omega arith) ∙ ap f (omega arith)

words_in : (ws : List ℕ) (k : ℕ) → k < RECORD_WORDS → get_or (words_of (record_in ws)) k 0 ≡ get_or ws k 0
words_in ws k h = listed (λ j. get_or ws j 0) 0 RECORD_WORDS k 0 h ∙ ap (λ (j : ℕ). get_or ws j 0) (zero-add k)

-- the k-th number of the n-th record
pub word_there : (ws : List ℕ) (n k : ℕ) → n < length (records_of ws) → k < RECORD_WORDS → get_or (words_of (record_of ws n)) k 0 ≡ get_or ws (n * RECORD_WORDS + k) 0
word_there ws n k h l =
    let m : n < length ws / RECORD_WORDS = rw records_length at h in
    ap (λ (r : Record). get_or (words_of r) k 0) (runs_at RECORD_WORDS record_in (length ws / RECORD_WORDS) ws n no_record m)
    ∙ (words_in (drop (n * RECORD_WORDS) ws) k l ∙ get_or-drop (n * RECORD_WORDS) ws k 0)

-- a test of every name as it is lent is one of every name that is meant
pub all_named : (p : scope.Name → Bool) (ns : List Name) → list_all (λ n. p (name_of n)) ns ≡ all p (map name_of ns)
all_named p [] = refl
all_named p (n ∷ ns) = ap (λ b. p (name_of n) && b) (all_named p ns)

-- the tests of chart and texts, one after the other; that of a record does not look at what stands beside the chart
pub chart_tests :
    (ws : List ℕ) (b : Beside) (rule text : List ℕ) →
    chart_words_ok ws b rule text
    ≡ (eqb (length ws % RECORD_WORDS) 0
    && (leb (length (records_of ws)) MAX_RECORDS
    && (texts_ok (texts rule text)
    && (all (record_ok (chart_in ws rule text)) (records_of ws)
    && (fn_trait_ok (env_of ws b [] [])
    && sigils_ok (env_of [] b rule text))))))
unfolding chart_words_ok chart_ok record_ok runs
chart_tests ws b rule text = refl
