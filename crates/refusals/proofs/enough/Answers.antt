-- `refusals::enough` meets its contract: a test of each slice's length.
-- Assumes nothing.
use borrow.Author.Rules.{rules}
use borrow.Author.Tests.{tests}
use Rattle.refusals.specs.Opening.{enough}
use Rattle.refusals.proofs.enough.Goals as goal

pub returns-then-node_words-ws : goal.returns-then-node_words-ws
unfolding enough
returns-then-node_words-ws c = search (rules, tests)

pub returns-else-node_words-ws : goal.returns-else-node_words-ws
unfolding enough
returns-else-node_words-ws c = search (rules, tests)
