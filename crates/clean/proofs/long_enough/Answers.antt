-- `clean::long_enough` meets its contract: its tests are those of `long_enough`, on the header that was read.
-- Assumes nothing.
use Rattle.std.proofs.Common.{arith, rules}
use Rattle.std.proofs.lemmas.Bool.Decides.{nat_tests}
use Rattle.layout.specs.Words.{long_enough}
use Rattle.clean.proofs.long_enough.Goals as goal

pub returns-then-node_words-ws : goal.returns-then-node_words-ws
unfolding long_enough
returns-then-node_words-ws c = grind (arith, nat_tests)

pub returns-else-node_words-ws : goal.returns-else-node_words-ws
unfolding long_enough
returns-else-node_words-ws c = search rules
