-- `chart::sigils_ok` meets its contract: there are four, and the test is made of each. Assumes nothing.
use mathlib.Core.Path.{◌≡◌, ◌∙◌}
use borrow.Author.Rules.{rules}
use borrow.Author.Tests.{tests}
use lib.ListN.{length, length-map}
use Rattle.std.proofs.lemmas.Iterator.{YieldsList-from_slice}
use Rattle.std.proofs.lemmas.Iterator.Search.{all_from_yields_List}
use Rattle.scope.specs.Limits.{SIGILS}
use Rattle.scope.specs.Chart.{sigil_ok}
use Rattle.names.specs.Place.{texts_by, name_of}
use Rattle.chart.proofs.Laws.{all_named}
use Rattle.chart.proofs.sigils_ok.Goals as goal

pub returns : goal.returns
returns c = let e = c.args.env.now in
    let ok = sigil_ok (texts_by e.texts) in
    let ns = e.beside.sigils in
    let four : length ns ≡ SIGILS = search rules in
    rw (length-map ns name_of, four)
    (all_from_yields_List (λ n. ok (name_of n)) _ _ _ c.all.ensures.ran (YieldsList-from_slice ns c.iter.ensures.rest) (λ x b q k. search (rules, tests))
    ∙ all_named ok ns)
