-- `force::force_kind` meets its contract. After `find_mut` the root's node has the state that it had before, and each of the three cases does what
-- scope's force_kind does there.
-- Assumes nothing.
use Rattle.force.proofs.ForceLaws.{force_head, force_linked, force_known, force_reported, force_failed}
use Rattle.force.proofs.force_kind.Goals as goal

pub find_mut-root-requires : goal.find_mut-root-requires
find_mut-root-requires c =
    force_linked c.args.h.now c.args.ws.now c.args.ks.now c.requires c.read_header-x.ensures

pub write_header-requires : goal.write_header-requires
write_header-requires c =
    force_head c.args.h.now c.args.ws.now c.args.ks.now c.requires

pub returns-in-Known : goal.returns-in-Known
returns-in-Known c =
    force_known c.args.h.now c.args.ws.now c.args.ks.now c.requires c.read_header-x.ensures c.find_mut-root.ensures c.idx-i.ensures c.node_at-node.ensures
    c.state_of-state.ensures c.in-Known.is c.inv.ensures c.bitxor.ensures

pub returns-in-Unknown : goal.returns-in-Unknown
returns-in-Unknown c =
    force_reported c.args.h.now c.args.ws.now c.args.ks.now c.requires c.read_header-x.ensures c.find_mut-root.ensures c.idx-i.ensures c.node_at-node.ensures
    c.state_of-state.ensures c.in-Unknown.is c.size_of.ensures c.put_node.ensures
    c.one_more.ensures c.with_reports.ensures c.write_header.ensures

pub returns-in-InferenceFailed : goal.returns-in-InferenceFailed
returns-in-InferenceFailed c =
    force_failed c.args.h.now c.args.ws.now c.args.ks.now c.requires c.read_header-x.ensures c.find_mut-root.ensures c.idx-i.ensures c.node_at-node.ensures
    c.state_of-state.ensures c.in-InferenceFailed.is
