-- `layout::node_at` meets its contract. Past the nodes nothing is read, and each arm is for the tag that node_of has there.
-- Assumes nothing.
use native.Mathlib.Omega.{arith}
use borrow.Author.Tests.{le-ltb}
use Rattle.layout.specs.Meaning.{read_at}
use Rattle.layout.proofs.Cells.{read_child, read_unknown, read_failed, read_known}
use Rattle.layout.proofs.node_at.Goals as goal

pub returns-then-n-i : goal.returns-then-n-i
unfolding read_at
returns-then-n-i c = rw (le-ltb _ _ c.if-n-i.true)

pub returns-in-0 : goal.returns-in-0
returns-in-0 c = read_child _ _ _ c.if-n-i.false c.cell_at-c.ensures c.in-0.is

pub returns-in-1 : goal.returns-in-1
returns-in-1 c = read_unknown _ _ _ c.if-n-i.false c.cell_at-c.ensures c.in-1.is

pub returns-in-2 : goal.returns-in-2
returns-in-2 c = read_failed _ _ _ c.if-n-i.false c.cell_at-c.ensures c.in-2.is

pub returns-in_default : goal.returns-in_default
returns-in_default c = read_known _ _ _ c.if-n-i.false c.cell_at-c.ensures (λ q. omega arith) (λ q. omega arith) (λ q. omega arith) c.kind_in.ensures
