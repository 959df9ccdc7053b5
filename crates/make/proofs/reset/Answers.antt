-- `make::reset` meets its contract. The used words are cleared and the others are 0, and the header keeps the capacities and the report count.
-- Assumes nothing.
use Rattle.make.proofs.OpenLaws.{reset_nodes, reset_children, reset_head, reset_became}
use Rattle.make.proofs.reset.Goals as goal

pub clear-requires : goal.clear-requires
clear-requires c =
    reset_nodes c.args.h.now c.args.ws.now c.args.ks.now c.requires c.read_header-x.ensures c.node_words.ensures

pub clear-requires-2 : goal.clear-requires-2
clear-requires-2 c =
    reset_children c.args.h.now c.args.ws.now c.args.ks.now c.requires c.read_header-x.ensures c.child_words.ensures

pub write_header-requires : goal.write_header-requires
write_header-requires c =
    reset_head c.args.h.now c.args.ws.now c.args.ks.now c.requires

pub returns : goal.returns
returns c =
    let a = c.args in
    reset_became a.h.now a.ws.now a.ks.now c.requires c.read_header-x.ensures c.node_words.ensures c.clear.ensures
    c.child_words.ensures c.clear-2.ensures c.no_nodes.ensures c.write_header.ensures
