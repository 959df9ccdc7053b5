-- `skips::pass` meets its contract: what the next slot tells of begins where what s tells of ends.
-- Assumes nothing.
use Rattle.skips.proofs.Laws.{passed_kept}
use Rattle.skips.proofs.pass.Goals as goal

pub returns-in-Ok : goal.returns-in-Ok
returns-in-Ok c =
    passed_kept c.skip_at-near.ensures.0 c.skip_at.ensures.0 c.skip_at-near.ensures.1 c.skip_at.ensures.1 c.in-Ok.ensures.1 c.put.ensures
