-- `clean::children_clean` meets its contract: the test is made of each number from a to e.
-- Assumes nothing.
use mathlib.Core.Path.{refl, sym, ◌∙◌}
use Prim.Native.Nat.{◌-◌}
use borrow.Author.Rules.{rules}
use borrow.Author.Tests.{tests}
use Rattle.std.proofs.lemmas.Iterator.{YieldsList-from_range}
use Rattle.std.proofs.lemmas.Iterator.Search.{all_from_yields_List}
use Rattle.layout.proofs.Lists.{all_range}
use Rattle.clean.proofs.Laws.{child_clean, slots_run}
use Rattle.clean.proofs.children_clean.Goals as goal

pub returns : goal.returns
returns c = let a = c.args in
    all_from_yields_List (child_clean a.may a.ks.now) _ _ _ c.all.ensures.ran (YieldsList-from_range a.a a.e (a.e - a.a) refl refl) (λ x b q k. search (rules, tests))
    ∙ (all_range (child_clean a.may a.ks.now) a.a (a.e - a.a) ∙ sym (slots_run a.may a.ks.now a.a a.e))
