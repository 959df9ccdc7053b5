-- `clean::names_clean` meets its contract. The row that was read is scope's; the children that may have a name come first, and the others have
-- none.
-- Assumes nothing.
use mathlib.Core.Path.{ap}
use Rattle.std.proofs.Common.{arith}
use Rattle.std.proofs.lemmas.Bool.Decides.{nat_tests}
use Rattle.clean.proofs.Laws.{names_said}
use Rattle.clean.proofs.names_clean.Goals as goal

pub returns-then-children_clean : goal.returns-then-children_clean
returns-then-children_clean c =
    rw (names_said c.args.ks.now c.args.k c.row_of-names.result.names (ap (λ y. y.names) c.row_of-names.ensures) c.named_children.ensures c.eq.ensures) (grind (arith, nat_tests))

pub returns-else-children_clean : goal.returns-else-children_clean
returns-else-children_clean c =
    rw (names_said c.args.ks.now c.args.k c.row_of-names.result.names (ap (λ y. y.names) c.row_of-names.ensures) c.named_children.ensures c.eq.ensures) (grind (arith, nat_tests))
