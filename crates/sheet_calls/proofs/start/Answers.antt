-- `sheet_calls::start` meets its contract: a store just opened is sound.
-- Assumes nothing.
use Rattle.sheet_calls.proofs.Laws.{start_sound}
use Rattle.sheet_calls.proofs.start.Goals as goal

pub returns : goal.returns
returns c = start_sound c.«open».ensures
