-- `kind_sound::kind_sound` meets its contract: the tests are those of scope's definition, in its order.
-- Assumes nothing.
use Rattle.std.proofs.Common.{arith}
use Rattle.kind_sound.proofs.Laws.{kind_tests}
use Rattle.kind_sound.proofs.kind_sound.Goals as goal

pub returns-then-has_chart_flag : goal.returns-then-has_chart_flag
returns-then-has_chart_flag c = λ ns e. rw (kind_tests c.args.env.now, ← c.kids_inside.ensures ns e) (grind arith)

pub returns-else-has_chart_flag : goal.returns-else-has_chart_flag
returns-else-has_chart_flag c = λ ns e. rw (kind_tests c.args.env.now) (grind arith)
