-- `sheet_line::empty_env` meets its contract: it is scope's empty chart.
-- Assumes nothing.
use Rattle.sheet_calls.proofs.StoreLaws.{sheet_env_lem}
use Rattle.sheet_line.proofs.empty_env.Goals as goal

pub returns : goal.returns
returns c = sheet_env_lem
