-- `node_sound::plain_node` meets its contract: the words beside the kind's are tested, then the kind.
-- Assumes nothing.
use Rattle.std.proofs.Common.{arith}
use Rattle.chart.specs.Env.{chart_lent}
use Rattle.node_sound.proofs.Laws.{plain_node}
use Rattle.node_sound.proofs.plain_node.Goals as goal

pub returns-then-x-le1-2-clause-plain : goal.returns-then-x-le1-2-clause-plain
returns-then-x-le1-2-clause-plain c = let a = c.args in
    λ t. plain_node (chart_lent a.env.now) a.ks.now a.n a.c a.x (grind arith) (grind arith) (grind arith) (grind arith) c.kind_in.ensures (c.plain_kind.ensures.plain t)
