-- `chart::records_ok` meets its contract: the test is made of each record, by its number.
-- Assumes nothing.
use mathlib.Core.Path.{refl, ◌∙◌}
use Prim.Native.Nat.{ℕ}
use native.Mathlib.Omega.{arith}
use lib.ListN.{length}
use borrow.Author.Rules.{rules}
use borrow.Author.Tests.{tests}
use Rattle.std.proofs.lemmas.Iterator.{YieldsList-from_range}
use Rattle.std.proofs.lemmas.Iterator.Search.{all_from_yields_List}
use Rattle.scope.specs.Chart.{record_ok, record_at, no_record}
use Rattle.names.proofs.Tests.{all_numbers}
use Rattle.chart.specs.Words.{records_of}
use Rattle.chart.specs.Env.{chart_lent, chart_alone}
use Rattle.chart.proofs.records_ok.Goals as goal

pub returns : goal.returns
returns c = let env = c.args.env.now in
    let e = chart_lent env in
    let t = λ (n : ℕ). record_ok e (record_at (chart_alone env.chart.now) n) in
    let n = length (records_of env.chart.now) in
    all_from_yields_List t _ _ _ c.all.ensures.ran (YieldsList-from_range 0 c.record_count-count.result n refl (omega (arith, c.record_count-count.ensures))) (λ x b q k. search (rules, tests))
    ∙ all_numbers (record_ok e) (records_of env.chart.now) no_record t (λ i h. refl)
