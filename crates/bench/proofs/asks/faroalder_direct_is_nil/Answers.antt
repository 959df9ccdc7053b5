-- `bench::asks::faroalder_direct_is_nil` meets its contract: its number is the flag of `is_nil`. Assumes nothing.
use Rattle.std.proofs.Common.{rules}
use Rattle.bench.proofs.Laws.{nil_number}
use Rattle.bench.proofs.asks.faroalder_direct_is_nil.Goals as goal

pub returns : goal.returns
returns c = nil_number c.is_nil.ensures (search (rules, c.from.ensures))
