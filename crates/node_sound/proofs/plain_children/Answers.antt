-- `node_sound::plain_children` meets its contract: the test is made of each child from a to e.
-- Assumes nothing.
use mathlib.Core.Path.{refl, sym, ◌∙◌}
use Prim.Native.Nat.{ℕ, ◌-◌}
use borrow.Author.Rules.{rules}
use borrow.Author.Tests.{tests}
use Rattle.std.proofs.lemmas.Iterator.{YieldsList-from_range}
use Rattle.std.proofs.lemmas.Iterator.Search.{all_from_yields_List}
use Rattle.layout.specs.Words.{slot_at}
use Rattle.layout.proofs.Lists.{all_range}
use Rattle.node_sound.specs.Tests.{plain_slot}
use Rattle.node_sound.proofs.plain_children.Goals as goal

pub returns-then-e-ks : goal.returns-then-e-ks
returns-then-e-ks c =
    let a = c.args in
    let plain = λ (j : ℕ). plain_slot a.n (slot_at a.ks.now j) in
    λ t.
    sym
    (all_from_yields_List plain _ _ _ c.all.ensures.ran (YieldsList-from_range a.a a.e (a.e - a.a) refl refl) (λ x b q k. search (rules, tests))
    ∙ all_range plain a.a (a.e - a.a))
    ∙ t
