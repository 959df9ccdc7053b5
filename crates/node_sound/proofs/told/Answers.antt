-- `node_sound::told` meets its contract: a definition is asked of the chart, and a kind of none is defined and has no flag of the chart's.
-- Assumes nothing.
use Rattle.node_sound.proofs.Laws.{told_plain}
use Rattle.node_sound.proofs.told.Goals as goal

pub returns-in_default : goal.returns-in_default
returns-in_default c = told_plain _ c.args.k c.args.row c.requires c.in_default.not-Definition-0 c.in_default.not-AsChart-1
