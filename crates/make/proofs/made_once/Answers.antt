-- `make::made_once` meets its contract: what `once` makes of what the store remembers is what scope's definition makes.
-- Assumes nothing.
use Rattle.make.proofs.MakeLaws.{once_is, once_ready, once_is_made}
use Rattle.make.proofs.made_once.Goals as goal

pub once-requires : goal.once-requires
once-requires c =
    let a = c.args in
    once_ready c.requires.clean (once_is a.h.now a.ws.now a.ks.now a.what) c.requires

pub returns : goal.returns
returns c =
    let a = c.args in
    once_is_made a.h.now a.ws.now a.ks.now a.what c.requires c.once.ensures
