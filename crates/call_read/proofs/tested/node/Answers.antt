-- `call_read::tested::node` meets its contract: a refusal is the first test that breaks, and where none does the node that was read is the store's and fits it.
-- Assumes nothing.
use mathlib.Core.Path.{refl}
use Rattle.scope.specs.Calls.{node_call}
use Rattle.refusals.proofs.Laws.{err_told}
use Rattle.call_read.proofs.tested.Laws.{node_refused, node_room, node_found}
use Rattle.call_read.proofs.tested.node.Goals as goal

pub returns-in_err-inside : goal.returns-in_err-inside
unfolding node_call
returns-in_err-inside c = rw (err_told c.from_residual.result c.from_residual.ensures.1)
    record { fits = refl; outcome = node_refused c.requires c.in_err-inside.ensures _ }

pub node_at-requires : goal.node_at-requires
node_at-requires c = node_room c.requires c.in_ok-inside.ensures c.read_header-x.ensures

pub returns : goal.returns
returns c = node_found c.requires c.in_ok-inside.ensures c.read_header-x.ensures c.idx.ensures c.node_at.ensures
