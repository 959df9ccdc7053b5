-- `clean::node_clean` meets its contract. The part that is read is the node's; a Known node is tested by `known_clean`, and any other node has
-- zeros for its kind's words.
-- Assumes nothing.
use mathlib.Core.Path.{sym, ◌∙◌}
use native.Mathlib.Omega.{arith}
use native.Mathlib.Nat.{add-sub_cancel_left}
use Rattle.clean.proofs.Laws.{node_known, node_plain}
use Rattle.clean.proofs.node_clean.Goals as goal

pub returns-then-x-eq-KNOWN_TAG : goal.returns-then-x-eq-KNOWN_TAG
returns-then-x-eq-KNOWN_TAG c = let a = c.args in
    c.known_clean.ensures
    ∙ sym (node_known a.ws.now a.ks.now a.c a.i.0 c.cell_at-x.result c.cell_at-x.ensures c.if-x-eq-KNOWN_TAG.true)

pub returns-then-plain_clean : goal.returns-then-plain_clean
returns-then-plain_clean c = let a = c.args in
    rw (node_plain a.ws.now a.ks.now a.c a.i.0 c.cell_at-x.result c.cell_at-x.ensures c.requires c.if-x-eq-KNOWN_TAG.false)
    (grind (arith, add-sub_cancel_left))

pub returns-else-plain_clean : goal.returns-else-plain_clean
returns-else-plain_clean c = let a = c.args in
    rw (node_plain a.ws.now a.ks.now a.c a.i.0 c.cell_at-x.result c.cell_at-x.ensures c.requires c.if-x-eq-KNOWN_TAG.false) (grind arith)
