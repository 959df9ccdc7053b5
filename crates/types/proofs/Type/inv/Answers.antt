-- `types::Type::inv` meets its contract: the bit is set where the word is at least INV_BIT.
-- Assumes nothing.
use borrow.Author.Rules.{rules}
use Rattle.scope.specs.Types.{ty_of}
use Rattle.types.proofs.Type.inv.Goals as goal

pub returns : goal.returns
unfolding ty_of
returns c = search rules
