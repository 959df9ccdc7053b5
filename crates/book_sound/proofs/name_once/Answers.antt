-- `book_sound::name_once` meets its contract: the test is made of each place behind place i.
-- Assumes nothing.
use mathlib.Core.Path.{refl, sym, ◌∙◌}
use Prim.Native.Nat.{◌+◌, ◌-◌}
use native.Mathlib.Numerals.{add-one}
use borrow.Author.Rules.{rules}
use borrow.Author.Tests.{tests}
use Rattle.std.proofs.lemmas.Iterator.{YieldsList-from_range}
use Rattle.std.proofs.lemmas.Iterator.Search.{all_from_yields_List}
use Rattle.scope.specs.Limits.{MAX_STATES}
use Rattle.layout.proofs.Lists.{all_range}
use Rattle.book_sound.specs.Tests.{other_name}
use Rattle.book_sound.proofs.NameLaws.{once_run}
use Rattle.book_sound.proofs.name_once.Goals as goal

pub returns : goal.returns
returns c = let bs = c.args.bs.now in
    let i = c.args.i in
    all_from_yields_List (other_name bs i) _ _ _ c.all.ensures.ran (YieldsList-from_range (i + 1) MAX_STATES (MAX_STATES - (i + 1)) (cc) refl) (λ x b q k. search (rules, tests))
    ∙ (all_range (other_name bs i) (i + 1) (MAX_STATES - (i + 1)) ∙ rw add-one (sym (once_run bs c.requires.clean i c.requires.index)))
