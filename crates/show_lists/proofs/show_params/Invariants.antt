-- `show_lists::show_params` meets its contract. The loop's invariant: what is left to write gives, appended, what the whole gives.
-- Assumes nothing.
use mathlib.Core.List.{[]}
use Rattle.scope.specs.Show.{show}
use Rattle.chart.specs.Env.{env_by}
use Rattle.layout.specs.Lent.{nodes_by}
use Rattle.show.proofs.Turns.{Turn}
use Rattle.show_names.specs.Names.{comma}
use Rattle.show_lists.proofs.Lists.{child}
use Rattle.show_lists.proofs.show_params.Given as goal

abbrev pub invariant-loop-j : goal.invariant-loop-j
invariant-loop-j l = Turn comma (child (show (env_by l.env) (nodes_by l.nodes)) l.nodes.kids.now l.k l.i.0) [] l.k.count l.initial.out l.out l.j
