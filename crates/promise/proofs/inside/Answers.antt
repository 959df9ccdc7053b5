-- `promise::inside` meets its contract: a type's node is in the store just where its number is below the header's count.
-- Assumes nothing.
use borrow.Author.Tests.{tests}
use Rattle.scope.specs.Types.{ty_of}
use Rattle.promise.proofs.Laws.{one_outside, one_inside}
use Rattle.promise.proofs.inside.Goals as goal

pub returns-then-not-type_inside : goal.returns-then-not-type_inside
returns-then-not-type_inside c = let a = c.args in
    one_outside a.h.now c.read_header-x.ensures (ty_of a.t.0) c.type_inside.ensures (search tests)

pub returns : goal.returns
returns c = let a = c.args in
    one_inside a.h.now c.read_header-x.ensures (ty_of a.t.0) c.type_inside.ensures (search tests)
