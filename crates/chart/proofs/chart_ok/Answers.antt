-- `chart::chart_ok` meets its contract: the tests are those of the definition, in its order.
-- Assumes nothing.
use Rattle.std.proofs.Common.{arith}
use Rattle.std.proofs.lemmas.Bool.Decides.{nat_tests}
use Rattle.chart.proofs.Laws.{chart_tests}
use Rattle.chart.proofs.chart_ok.Goals as goal

pub returns-then-fn_trait_ok : goal.returns-then-fn_trait_ok
returns-then-fn_trait_ok c = rw chart_tests (grind (arith, nat_tests))

pub returns-else-fn_trait_ok : goal.returns-else-fn_trait_ok
returns-else-fn_trait_ok c = rw chart_tests (grind (arith, nat_tests))
