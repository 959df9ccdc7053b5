-- `force::finish_inference_where` meets its contract: the bytes choose.
-- Assumes nothing.
use borrow.Author.Rules.{rules}
use Rattle.scope.specs.Force.{finish_where}
use Rattle.force.proofs.FinishLaws.{finishes_where}
use Rattle.force.proofs.finish_inference_where.Goals as goal

pub returns : goal.returns
returns c = c.finish_chosen.ensures (finish_where c.args.bytes.now) (finishes_where c.args.bytes.now (λ i b s p. search rules))
