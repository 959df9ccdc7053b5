-- `names::name_ok` meets its contract: the tests are those of the definition, in its order.
-- Assumes nothing.
use Rattle.std.proofs.Common.{arith}
use Rattle.std.proofs.lemmas.Bool.Decides.{nat_tests}
use Rattle.scope.specs.Names.{name_ok}
use Rattle.names.proofs.name_ok.Goals as goal

pub returns-then-n-ge1 : goal.returns-then-n-ge1
unfolding name_ok
returns-then-n-ge1 c = grind (arith, nat_tests)

pub returns-else-n-ge1 : goal.returns-else-n-ge1
unfolding name_ok
returns-else-n-ge1 c = grind (arith, nat_tests)
