-- `tested_lean::node_room` meets its contract: the counts are within their room, so one node more is over it only where none is left.
-- Assumes nothing.
use Rattle.tested_lean.proofs.Laws.{node_full, node_left}
use Rattle.tested_lean.proofs.node_room.Goals as goal

pub returns-then-node_room-nodes_made : goal.returns-then-node_room-nodes_made
returns-then-node_room-nodes_made c =
    λ ws ks. node_full c.requires ws ks (rw (c.node_room.ensures, c.nodes_made.ensures) at c.if-node_room-nodes_made.true)

pub returns : goal.returns
returns c =
    λ ws ks. node_left c.requires ws ks (rw (c.node_room.ensures, c.nodes_made.ensures) at c.if-node_room-nodes_made.false)
