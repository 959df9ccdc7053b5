-- `show_lists::show_list` meets its contract. The loop's invariant: what is left to write gives, appended, what the whole gives.
-- Assumes nothing.
use Rattle.show.proofs.Turns.{turn_next}
use Rattle.show_lists.proofs.Lists.{comma_any, list_end}
use Rattle.show_lists.proofs.show_list.Goals as goal

pub loop-i-preserved : goal.loop-i-preserved
loop-i-preserved c = turn_next _ _ _ _ c.loop-i.invariant c.loop-i-test.true (rw (comma_any _) at c.put_comma.ensures) c.show_all.ensures

pub returns : goal.returns
returns c = list_end _ c.args.xs.now c.loop-i.invariant c.loop-i-test.false
