-- `sound::readable` meets its contract: the header says the capacities.
-- Assumes nothing.
use mathlib.Core.Path.{ap}
use borrow.Author.Rules.{rules}
use borrow.Author.Tests.{tests}
use Rattle.layout.specs.declared.Header.{Header}
use Rattle.sound.specs.Tests.{readable}
use Rattle.sound.proofs.readable.Goals as goal

pub returns-then-x-le-MAX_CHILDREN : goal.returns-then-x-le-MAX_CHILDREN
unfolding readable
returns-then-x-le-MAX_CHILDREN c = let n = ap (λ (x : Header). x.node_room) c.read_header-x.ensures in let k = ap (λ (x : Header). x.child_room) c.read_header-x.ensures in
    search (rules, tests, n, k)

pub returns-else-x-le-MAX_CHILDREN : goal.returns-else-x-le-MAX_CHILDREN
unfolding readable
returns-else-x-le-MAX_CHILDREN c = let n = ap (λ (x : Header). x.node_room) c.read_header-x.ensures in let k = ap (λ (x : Header). x.child_room) c.read_header-x.ensures in
    search (rules, tests, n, k)
