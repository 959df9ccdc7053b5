-- `show_lists::show_list` meets its contract. The loop's invariant: what is left to write gives, appended, what the whole gives.
-- Assumes nothing.
use mathlib.Core.List.{[]}
use lib.ListN.{length}
use Rattle.scope.specs.Show.{show}
use Rattle.chart.specs.Env.{env_by}
use Rattle.layout.specs.Lent.{nodes_by}
use Rattle.show.proofs.Turns.{Turn}
use Rattle.show_names.specs.Names.{comma}
use Rattle.show_lists.proofs.Lists.{item}
use Rattle.show_lists.proofs.show_list.Given as goal

abbrev pub invariant-loop-i : goal.invariant-loop-i
invariant-loop-i l = Turn comma (item (show (env_by l.env) (nodes_by l.nodes)) l.xs) [] (length l.xs) l.initial.out l.out l.i
