-- `show_impl::tuple_of` meets its contract: the root that was found has what the definition reads.
-- Assumes nothing.
use mathlib.Core.Path.{refl}
use Rattle.show_impl.proofs.Laws.{tuple_chosen}
use Rattle.show_impl.proofs.tuple_of.Goals as goal

pub returns : goal.returns
returns c = rw c.then_some.ensures (tuple_chosen c.find_in-root.ensures c.idx.ensures c.held.ensures c.in_ok-inv.was c.inv.ensures c.bitxor.ensures _ refl)
