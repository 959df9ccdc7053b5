-- `show_lists::show_params` meets its contract. The loop's invariant: what is left to write gives, appended, what the whole gives.
-- Assumes nothing.
use Rattle.scope.specs.Show.{show}
use Rattle.names.specs.Place.{texts_by}
use Rattle.chart.specs.Env.{env_by}
use Rattle.layout.specs.Lent.{nodes_by}
use Rattle.show.proofs.Turns.{turn_next, kid_shown}
use Rattle.show_lists.proofs.Lists.{comma_any, params_end}
use Rattle.show_lists.proofs.show_params.Goals as goal

pub loop-j-preserved : goal.loop-j-preserved
loop-j-preserved c = let a = c.args in
    turn_next _ _ _ _ c.loop-j.invariant c.loop-j-test.true (rw (comma_any _) at c.put_comma.ensures)
    (kid_shown (show (env_by a.env.now) (nodes_by a.nodes.now))
    a.nodes.now.kids.now a.k a.i.0 c.loop-j.j c.child.result c.invert_if.result.0 c.invert_if.ensures c.child.ensures c.show_all.ensures)

pub returns : goal.returns
returns c = let a = c.args in
    params_end _ (texts_by a.env.now.texts) a.nodes.now.kids.now a.k a.i.0 c.loop-j.invariant c.loop-j-test.false
