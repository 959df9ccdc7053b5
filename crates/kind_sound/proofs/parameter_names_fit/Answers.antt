-- `kind_sound::parameter_names_fit` meets its contract: the test is made of each parameter's name.
-- Assumes nothing.
use mathlib.Core.Path.{◌∙◌}
use Prim.Native.Nat.{◌+◌}
use native.Mathlib.Omega.{arith}
use borrow.Author.Rules.{rules}
use borrow.Author.Tests.{tests}
use Rattle.std.proofs.lemmas.Iterator.{YieldsList-from_range}
use Rattle.std.proofs.lemmas.Iterator.Search.{all_from_yields_List}
use Rattle.scope.specs.Names.{named_or_none}
use Rattle.scope.specs.Sound.{slot_name}
use Rattle.names.specs.Place.{texts_by}
use Rattle.layout.specs.Words.{slot_at}
use Rattle.kind_sound.proofs.NameLaws.{names_run}
use Rattle.kind_sound.proofs.parameter_names_fit.Goals as goal

pub returns : goal.returns
returns c = let a = c.args in
    let test = named_or_none (texts_by a.texts.now) in
    all_from_yields_List (λ i. test (slot_name (slot_at a.ks.now (a.k.first + i)))) _ _ _ c.all.ensures.ran
    (YieldsList-from_range 0 a.n a.n (cc) (omega arith)) (λ x b q k. search (rules, tests))
    ∙ names_run test a.ks.now a.k.first a.n
