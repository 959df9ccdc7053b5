-- `call_show::show_part` meets its contract: what the first form promises of the buffer, its part promises.
-- Assumes nothing.
use Rattle.call_show.proofs.Laws.{show_part}
use Rattle.call_show.proofs.show_part.Goals as goal

pub returns : goal.returns
returns c = (show_part _ _ _ _ c.show-r.result c.show-r.ensures c.hand_back.ensures.0, c.hand_back.ensures.1)
