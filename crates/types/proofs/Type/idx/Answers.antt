-- `types::Type::idx` meets its contract: the node number is what is left of the word by INV_BIT.
-- Assumes nothing.
use borrow.Author.Rules.{rules}
use Rattle.scope.specs.Types.{ty_of}
use Rattle.types.proofs.Type.idx.Goals as goal

pub returns : goal.returns
unfolding ty_of
returns c = search rules
