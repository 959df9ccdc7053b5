-- `call_read::tested::child` meets its contract: a refusal is the first test that breaks, and where none does the child is read of the type's node.
-- Assumes nothing.
use mathlib.Core.Path.{refl}
use Rattle.std.proofs.Common.{rules}
use Rattle.scope.specs.Nodes.{Node}
use Rattle.scope.specs.Calls.{child_at, child_call}
use Rattle.refusals.proofs.Laws.{err_told}
use Rattle.call_read.proofs.tested.Laws.{node_refused, node_room, node_told}
use Rattle.call_read.proofs.tested.NameLaws.{held_child}
use Rattle.call_read.proofs.tested.child.Goals as goal

pub returns-in_err-inside : goal.returns-in_err-inside
unfolding child_call
returns-in_err-inside c = rw (err_told c.from_residual.result c.from_residual.ensures.1) (node_refused c.requires c.in_err-inside.ensures _)

pub held_at-held-requires : goal.held_at-held-requires
held_at-held-requires c = node_room c.requires c.in_ok-inside.ensures c.read_header-x.ensures

pub returns : goal.returns
unfolding child_call
returns c =
    node_told c.requires c.in_ok-inside.ensures c.read_header-x.ensures c.idx.ensures refl (λ (v : Node). child_at v c.args.j)
    (held_child _ _ _ c.held_at-held.ensures (λ e. rw (rw e at c.and_then.ensures) refl) (λ i k e. search (rules, rw e at c.and_then.ensures)))
