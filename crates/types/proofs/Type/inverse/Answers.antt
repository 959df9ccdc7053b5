-- `types::Type::inverse` meets its contract: a word with the bit loses it, one without it gains it, and the node number stays.
-- Assumes nothing.
use borrow.Author.Rules.{rules}
use Rattle.types.proofs.Laws.{inverse_word}
use Rattle.types.proofs.Type.inverse.Goals as goal

pub returns : goal.returns
returns c = inverse_word c.args.self.0 (search rules)
