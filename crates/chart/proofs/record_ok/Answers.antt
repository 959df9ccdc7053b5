-- `chart::record_ok` meets its contract: the tests are those of the definition, in its order.
-- Assumes nothing.
use Rattle.std.proofs.Common.{arith}
use Rattle.std.proofs.lemmas.Bool.Decides.{nat_tests}
use Rattle.scope.specs.Chart.{record_ok}
use Rattle.chart.proofs.record_ok.Goals as goal

pub returns-then-flag_ok : goal.returns-then-flag_ok
unfolding record_ok
returns-then-flag_ok c = grind (arith, nat_tests)

pub returns-else-flag_ok : goal.returns-else-flag_ok
unfolding record_ok
returns-else-flag_ok c = grind (arith, nat_tests)
