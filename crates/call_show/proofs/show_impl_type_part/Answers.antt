-- `call_show::show_impl_type_part` meets its contract: what the first form promises of the buffer, its part promises.
-- Assumes nothing.
use Rattle.call_show.proofs.Laws.{impl_part}
use Rattle.call_show.proofs.show_impl_type_part.Goals as goal

pub returns : goal.returns
returns c = (impl_part _ _ _ _ c.show_impl_type-r.result c.show_impl_type-r.ensures c.hand_back.ensures.0, c.hand_back.ensures.1)
