-- What every call reads, from the chart's numbers, what stands beside the chart and the two texts.
use Rattle.std.specs.Prelude.{List, [], Bool, ◌&&◌, ℕ, ◌%◌, eqb, length, map}
use Rattle.scope.specs.Limits.{NONE}
use Rattle.scope.specs.Chart.{Env, chart_ok}
use Rattle.names.specs.Place.{name_of, texts}
use Rattle.chart.specs.declared.Beside.{Beside}
use Rattle.chart.specs.declared.Env as lent
use Rattle.chart.specs.Words.{RECORD_WORDS, records_of}

abbrev pub env_of : List ℕ → Beside → List ℕ → List ℕ → Env
env_of ws b rule text =
    record {
      records = records_of ws;
      fn_trait = b.fn_trait;
      sigils = map name_of b.sigils;
      texts = texts rule text;
    }

-- what is lent as one
abbrev pub env_by : lent.Env → Env
env_by l = env_of l.chart.now l.beside l.texts.rule.now l.texts.chart.now

-- the same with nothing beside the chart, which the test of a record does not look at
abbrev pub chart_in : List ℕ → List ℕ → List ℕ → Env
chart_in ws rule text = record { records = records_of ws; fn_trait = NONE; sigils = []; texts = texts rule text }

-- the chart that is lent, with its texts, and these alone
abbrev pub chart_lent : lent.Env → Env
chart_lent l = chart_in l.chart.now l.texts.rule.now l.texts.chart.now

abbrev pub texts_lent : lent.Env → Env
texts_lent l = chart_in [] l.texts.rule.now l.texts.chart.now

-- the chart alone, which is all that its readers look at
abbrev pub chart_alone : List ℕ → Env
chart_alone ws = chart_in ws [] []

-- refusal 2 stands where this fails: the numbers are whole records, and chart and texts break no limit
unfoldable pub chart_words_ok : List ℕ → Beside → List ℕ → List ℕ → Bool
chart_words_ok ws b rule text = eqb (length ws % RECORD_WORDS) 0 && chart_ok (env_of ws b rule text)
