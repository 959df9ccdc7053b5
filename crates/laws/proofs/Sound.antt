-- A law of the tests of a chart that no proof of a function needs: whole records are the chart that `chart` reads. Assumes nothing.
use mathlib.Core.Path.{◌≡◌}
use mathlib.Core.Bool.{true}
use mathlib.Core.List.{List}
use Prim.Native.Nat.{ℕ, ◌%◌}
use lib.Dec.{eqb}
use lib.ListN.{length}
use borrow.Author.Tests.{eq-eqb}
use Rattle.chart.specs.declared.Beside.{Beside}
use Rattle.chart.specs.Words.{RECORD_WORDS}
use Rattle.chart.specs.Env.{env_of}
use Rattle.sound.specs.Tests.{env_in}

module _ (ws : List ℕ) (b : Beside) (rule text : List ℕ) where
  whole_by : eqb (length ws % RECORD_WORDS) 0 ≡ true → env_in ws b rule text ≡ env_of ws b rule text
  unfolding env_in
  whole_by q = rw q

  pub env_records : length ws % RECORD_WORDS ≡ 0 → env_in ws b rule text ≡ env_of ws b rule text
  env_records q = whole_by (eq-eqb (length ws % RECORD_WORDS) 0 q)
