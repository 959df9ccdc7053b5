-- `call_states::tested::reset` meets its contract: there is nothing to refuse.
-- Assumes nothing.
use Rattle.call_states.proofs.tested.CallLaws.{reset_ready, reset_done}
use Rattle.call_states.proofs.tested.reset.Goals as goal

pub reset-requires : goal.reset-requires
reset-requires c =
    reset_ready c.requires

pub returns : goal.returns
returns c =
    reset_done c.requires c.reset.ensures
