-- `show_impl::show_trait` meets its contract: the name, and its list in brackets where there is one.
-- Assumes nothing.
use mathlib.Core.Path.{sym, ◌∙◌}
use Rattle.scope.specs.Show.{show}
use Rattle.chart.specs.Env.{env_by}
use Rattle.layout.specs.Lent.{nodes_by}
use Rattle.append.proofs.Laws.{puts_then}
use Rattle.show_impl.proofs.Pieces.{trait_bare, trait_listed}
use Rattle.show_impl.proofs.show_trait.Goals as goal

pub returns-else-not-is_empty : goal.returns-else-not-is_empty
returns-else-not-is_empty c =
    let a = c.args in
    let e = env_by a.env.now in
    let empty = sym c.is_empty.ensures ∙ c.if-not-is_empty.false in
    rw (trait_bare (show e (nodes_by a.nodes.now)) e a.i a.xs.now empty, ← c.name_at.ensures) c.put_name.ensures

pub returns-then-not-is_empty : goal.returns-then-not-is_empty
returns-then-not-is_empty c =
    let a = c.args in
    let e = env_by a.env.now in
    let some = sym c.is_empty.ensures ∙ c.if-not-is_empty.true in
    rw (trait_listed (show e (nodes_by a.nodes.now)) e a.i a.xs.now some, ← c.name_at.ensures)
    (puts_then c.put_name.ensures (puts_then c.put.ensures (puts_then c.show_list.ensures c.put-then-not-is_empty.ensures)))
