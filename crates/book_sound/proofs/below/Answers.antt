-- `book_sound::below` meets its contract: the test is made of each word.
-- Assumes nothing.
use mathlib.Core.Path.{◌∙◌}
use borrow.Author.Rules.{rules}
use borrow.Author.Tests.{tests}
use Rattle.std.proofs.lemmas.Iterator.{YieldsList-from_slice}
use Rattle.std.proofs.lemmas.Iterator.Search.{all_from_yields_List}
use Rattle.layout.proofs.Lists.{all_list}
use Rattle.book_sound.specs.Tests.{is_below}
use Rattle.book_sound.proofs.below.Goals as goal

pub returns : goal.returns
returns c = let a = c.args in
    all_from_yields_List (is_below a.limit) _ _ _ c.all.ensures.ran (YieldsList-from_slice a.s.now c.iter.ensures.rest) (λ x b q k. search (rules, tests))
    ∙ all_list (is_below a.limit) a.s.now
