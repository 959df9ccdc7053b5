-- `show::show_all` meets its contract: the node count is the depth.
-- Assumes nothing.
use Rattle.show.proofs.Turns.{show_whole}
use Rattle.show.proofs.show_all.Goals as goal

pub returns : goal.returns
returns c = rw (← show_whole _ _ _ _ _) c.show_type.ensures
