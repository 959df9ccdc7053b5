-- `inverse::all_good` meets its contract: the test is made of each node below n.
-- Assumes nothing.
use mathlib.Core.Path.{◌∙◌}
use native.Mathlib.Omega.{arith}
use borrow.Author.Rules.{rules}
use borrow.Author.Tests.{tests}
use Rattle.std.proofs.lemmas.Iterator.{YieldsList-from_range}
use Rattle.std.proofs.lemmas.Iterator.Search.{all_from_yields_List}
use Rattle.layout.proofs.Lists.{all_range}
use Rattle.inverse.specs.Marked.{good_at}
use Rattle.inverse.proofs.all_good.Goals as goal

pub returns : goal.returns
returns c = let a = c.args in
    let n = a.nodes.now.made in
    let test = good_at a.nodes.now.words.now n a.marks.now a.param in
    all_from_yields_List test _ _ _ c.all.ensures.ran (YieldsList-from_range 0 n n (cc) (omega arith)) (λ x b q k. search (rules, tests))
    ∙ all_range test 0 n
