-- `force::finish_inference` meets its contract: every node is chosen.
-- Assumes nothing.
use borrow.Author.Rules.{rules}
use Rattle.scope.specs.Force.{finish_inference}
use Rattle.force.proofs.FinishLaws.{finishes_all}
use Rattle.force.proofs.finish_inference.Goals as goal

pub returns : goal.returns
returns c = c.finish_chosen.ensures finish_inference (finishes_all (λ i b p. search rules))
