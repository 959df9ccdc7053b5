-- `refusals::entries_inside` meets its contract: the test is made of each entry's type.
-- Assumes nothing.
use mathlib.Core.Path.{◌∙◌}
use Prim.Native.Nat.{◌+◌}
use native.Mathlib.Omega.{arith}
use borrow.Author.Rules.{rules}
use borrow.Author.Tests.{tests}
use Rattle.std.proofs.lemmas.Iterator.{YieldsList-from_range}
use Rattle.std.proofs.lemmas.Iterator.Search.{all_from_yields_List}
use Rattle.scope.specs.Types.{ty_of}
use Rattle.scope.specs.Sound.{in_store}
use Rattle.layout.specs.Words.{slot_at}
use Rattle.store.specs.Entries.{entry_count}
use Rattle.refusals.proofs.InsideLaws.{all_slots}
use Rattle.refusals.proofs.entries_inside.Goals as goal

pub returns : goal.returns
returns c = λ ns long. let es = c.args.es.now in
    all_from_yields_List (λ i. in_store ns (ty_of (slot_at es (0 + i)).type)) _ _ _ c.all.ensures.ran
    (YieldsList-from_range 0 (entry_count es) (entry_count es) (cc) (omega arith)) (λ x b q k. search (rules, tests, long))
    ∙ all_slots ns es 0 (entry_count es)
