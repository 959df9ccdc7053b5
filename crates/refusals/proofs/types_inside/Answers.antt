-- `refusals::types_inside` meets its contract: the test is made of each word.
-- Assumes nothing.
use mathlib.Core.Path.{◌∙◌}
use borrow.Author.Rules.{rules}
use borrow.Author.Tests.{tests}
use Rattle.std.proofs.lemmas.Iterator.{YieldsList-from_slice}
use Rattle.std.proofs.lemmas.Iterator.Search.{all_from_yields_List}
use Rattle.scope.specs.Types.{ty_of}
use Rattle.scope.specs.Sound.{in_store}
use Rattle.refusals.proofs.InsideLaws.{all_types}
use Rattle.refusals.proofs.types_inside.Goals as goal

pub returns : goal.returns
returns c = λ ns long. let ts = c.args.ts.now in
    all_from_yields_List (λ w. in_store ns (ty_of w)) _ _ _ c.all.ensures.ran (YieldsList-from_slice ts c.iter.ensures.rest) (λ x b q k. search (rules, tests, long))
    ∙ all_types ns ts
