-- `clean::known_clean` meets its contract: a Known node's run lies among the children made, its two flags are 0 or 1, and its names are clean.
-- Assumes nothing.
use Rattle.std.proofs.Common.{arith}
use Rattle.std.proofs.lemmas.Bool.Decides.{nat_tests}
use Rattle.clean.proofs.Laws.{known_parts, known_names}
use Rattle.clean.proofs.known_clean.Goals as goal

pub returns-then-x-le1-2 : goal.returns-then-x-le1-2
returns-then-x-le1-2 c = let a = c.args in
    rw (known_parts a.ks.now a.c a.x c.requires) (grind (arith, nat_tests, known_names a.ks.now a.c a.x c.requires _ c.kind_in.ensures))

pub returns-else-x-le1-2 : goal.returns-else-x-le1-2
returns-else-x-le1-2 c = let a = c.args in
    rw (known_parts a.ks.now a.c a.x c.requires) (grind (arith, nat_tests))
