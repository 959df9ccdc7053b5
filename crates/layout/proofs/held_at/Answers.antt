-- `layout::held_at` meets its contract. Past the nodes there is no kind, and below the tag of a kind neither.
-- Assumes nothing.
use borrow.Author.Tests.{le-ltb}
use Rattle.layout.specs.Meaning.{read_at}
use Rattle.layout.proofs.Cells.{held_none, held_kind}
use Rattle.layout.proofs.held_at.Goals as goal

pub returns-then-n-i : goal.returns-then-n-i
unfolding read_at
returns-then-n-i c = rw (le-ltb _ _ c.if-n-i.true)

pub returns-then-c-le-FAILED_TAG : goal.returns-then-c-le-FAILED_TAG
returns-then-c-le-FAILED_TAG c = held_none _ _ _ c.if-n-i.false c.cell_at-c.ensures c.if-c-le-FAILED_TAG.true

pub returns : goal.returns
returns c = held_kind _ _ _ c.if-n-i.false c.cell_at-c.ensures c.if-c-le-FAILED_TAG.false c.kind_in.ensures
