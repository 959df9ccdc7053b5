-- `kind_sound::kids_inside` meets its contract: the test is made of each child.
-- Assumes nothing.
use mathlib.Core.Path.{◌∙◌}
use native.Mathlib.Omega.{arith}
use borrow.Author.Rules.{rules}
use borrow.Author.Tests.{tests}
use Prim.Native.Nat.{◌+◌}
use Rattle.std.proofs.lemmas.Iterator.{YieldsList-from_range}
use Rattle.std.proofs.lemmas.Iterator.Search.{all_from_yields_List}
use Rattle.scope.specs.Types.{ty_of}
use Rattle.scope.specs.Sound.{in_store}
use Rattle.layout.specs.Words.{slot_at}
use Rattle.layout.specs.Meaning.{kind_means}
use Rattle.refusals.proofs.InsideLaws.{all_slots}
use Rattle.kind_sound.proofs.kids_inside.Goals as goal

pub returns : goal.returns
unfolding kind_means
returns c = λ ns long. let ks = c.args.ks.now in let k = c.args.k in
    all_from_yields_List (λ j. in_store ns (ty_of (slot_at ks (k.first + j)).type)) _ _ _ c.all.ensures.ran
    (YieldsList-from_range 0 k.count k.count (cc) (omega arith)) (λ x b q r. search (rules, tests, long))
    ∙ all_slots ns ks k.first k.count
