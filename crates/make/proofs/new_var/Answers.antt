-- `make::new_var` meets its contract: the next slot is not used, and the push of an Unknown is what the definition does.
-- Assumes nothing.
use Rattle.make.proofs.MakeLaws.{blank_ready, blank_made, var_made}
use Rattle.make.proofs.new_var.Goals as goal

pub push_unknown-requires : goal.push_unknown-requires
push_unknown-requires c = blank_ready c.requires

pub returns : goal.returns
returns c =
    var_made (blank_made c.requires c.push_unknown.ensures)
