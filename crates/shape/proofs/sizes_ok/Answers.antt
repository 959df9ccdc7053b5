-- `shape::sizes_ok` meets its contract: the test is made of each node below n, beside the counts, which `tally` made of all nodes.
-- Assumes nothing.
use mathlib.Core.Path.{refl, ap, ◌∙◌}
use native.Mathlib.Omega.{arith}
use lib.ListN.{get_or}
use borrow.Author.Rules.{rules}
use borrow.Author.Tests.{tests}
use Rattle.std.proofs.lemmas.Iterator.{YieldsList-from_range}
use Rattle.std.proofs.lemmas.Iterator.Search.{all_from_yields_List}
use Rattle.layout.proofs.Lists.{all_range}
use Rattle.shape.specs.Read.{ups_by, size_by, size_fits}
use Rattle.shape.proofs.Laws as laws
use Rattle.shape.proofs.Lists.{all_same}
use Rattle.shape.proofs.sizes_ok.Goals as goal

pub tally-requires : goal.tally-requires
tally-requires c = laws.tallies_none c.requires

pub returns : goal.returns
returns c = let a = c.args in
    let counts = c.tally.new.counts in
    let up = ups_by a.nodes.now in
    let n = a.nodes.now.made in
    all_from_yields_List (λ i. size_by (get_or counts i 0) (up i)) _ _ _ c.all.ensures.ran (YieldsList-from_range 0 n n refl (omega arith)) (λ x b q k. search (rules, tests))
    ∙ (all_range (λ i. size_by (get_or counts i 0) (up i)) 0 n
    ∙ all_same (λ i. size_by (get_or counts i 0) (up i)) (size_fits a.nodes.now.words.now n a.roots.now) 0 n
    (λ v l h. ap (λ m. size_by m (up v)) (c.tally.ensures.each v (omega (arith, h)))))
