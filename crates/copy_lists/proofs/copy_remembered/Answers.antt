-- `copy_lists::copy_remembered` meets its contract: a type, or none.
-- Assumes nothing.
use Rattle.roots.proofs.StaysLaws.{stays_same}
use Rattle.copy_lists.proofs.ListLaws.{remembered_none, remembered_copyable, remembered_one}
use Rattle.copy_lists.proofs.copy_remembered.Goals as goal

pub returns-in_err-t : goal.returns-in_err-t
returns-in_err-t c = rw c.from_residual.ensures (remembered_none _ c.requires c.in_err-t.was, stays_same _)

pub copy-requires : goal.copy-requires
copy-requires c =
    remembered_copyable _ c.requires c.in_ok-t.was

pub returns : goal.returns
returns c =
    (remembered_one _ c.requires c.in_ok-t.was c.copy.ensures.0, c.copy.ensures.1)
