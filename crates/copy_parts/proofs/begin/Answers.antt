-- `copy_parts::begin` meets its contract: the blank's number, and 1, is what the table gets.
-- Assumes nothing.
use native.Mathlib.Omega.{arith}
use Rattle.make.proofs.MakeLaws.{blank_ready, blank_made}
use Rattle.copy_parts.proofs.StepLaws.{begin_fits, begin_is}
use Rattle.copy_parts.proofs.begin.Goals as goal

pub push_unknown-new-requires : goal.push_unknown-new-requires
push_unknown-new-requires c = blank_ready c.requires

pub overflow_add-new : goal.overflow_add-new
overflow_add-new c =
    omega (arith, begin_fits c.requires (blank_made c.requires c.push_unknown-new.ensures))

pub returns : goal.returns
returns c =
    begin_is (blank_made c.requires c.push_unknown-new.ensures) c.put.ensures
