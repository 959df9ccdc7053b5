-- `kind_sound::can_be_made` meets its contract: the tests are those of scope's definition, in its order.
-- Assumes nothing.
use Rattle.std.proofs.Common.{arith}
use Rattle.std.proofs.lemmas.Bool.Decides.{nat_tests}
use Rattle.kind_sound.proofs.Laws.{made_tests}
use Rattle.kind_sound.proofs.can_be_made.Goals as goal

pub returns-then-flex_ok : goal.returns-then-flex_ok
returns-then-flex_ok c = rw made_tests (grind (arith, nat_tests))

pub returns-else-flex_ok : goal.returns-else-flex_ok
returns-else-flex_ok c = rw made_tests (grind (arith, nat_tests))
