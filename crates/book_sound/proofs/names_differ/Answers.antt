-- `book_sound::names_differ` meets its contract: the test is made of each place.
-- Assumes nothing.
use mathlib.Core.Path.{◌∙◌}
use native.Mathlib.Omega.{arith}
use borrow.Author.Rules.{rules}
use borrow.Author.Tests.{tests}
use Rattle.std.proofs.lemmas.Iterator.{YieldsList-from_range}
use Rattle.std.proofs.lemmas.Iterator.Search.{all_from_yields_List}
use Rattle.scope.specs.Limits.{MAX_STATES}
use Rattle.layout.proofs.Lists.{all_range}
use Rattle.book_sound.specs.Tests.{name_once}
use Rattle.book_sound.proofs.NameLaws.{differ_all}
use Rattle.book_sound.proofs.names_differ.Goals as goal

pub returns : goal.returns
returns c = let bs = c.args.bs.now in
    all_from_yields_List (name_once bs) _ _ _ c.all.ensures.ran (YieldsList-from_range 0 MAX_STATES MAX_STATES (cc) (omega arith)) (λ x b q k. search (rules, tests))
    ∙ (all_range (name_once bs) 0 MAX_STATES ∙ differ_all bs 0 MAX_STATES (omega arith))
