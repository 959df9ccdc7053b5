-- `show_impl::show_fn` meets its contract: its pieces are those of the fn form, in their order; a return that is nil is not shown.
-- Assumes nothing.
use mathlib.Core.Path.{sym, ◌∙◌}
use mathlib.Core.Bool.{true, false}
use Rattle.scope.specs.Types.{ty_of}
use Rattle.scope.specs.Force.{is_nil}
use Rattle.scope.specs.Show.{show}
use Rattle.chart.specs.Env.{env_by}
use Rattle.layout.specs.Lent.{nodes_by}
use Rattle.layout.specs.Meaning.{kind_means}
use Rattle.layout.proofs.LinkLaws.{clean_linked}
use Rattle.append.proofs.Laws.{puts_then}
use Rattle.show_impl.proofs.Pieces.{fn_put}
use Rattle.show_impl.proofs.show_fn.Goals as goal

pub is_nil-requires : goal.is_nil-requires
is_nil-requires c = clean_linked _ _ _ _ c.requires.clean

pub returns-else-not-is_nil : goal.returns-else-not-is_nil
returns-else-not-is_nil c =
    let a = c.args in
    let ns = nodes_by a.nodes.now in
    let nil = sym (c.is_nil.ensures.nil a.nodes.now.kids.now c.requires.made c.requires.clean) ∙ c.if-not-is_nil.false in
    fn_put (show (env_by a.env.now) ns) (is_nil ns) (ty_of a.receiver.0) a.i.0 (kind_means a.nodes.now.kids.now a.k).kids (ty_of a.ret.0) true nil
    c.put.ensures c.show_all.ensures c.put-2.ensures c.show_params.ensures c.put-3.ensures

pub returns-then-not-is_nil : goal.returns-then-not-is_nil
returns-then-not-is_nil c =
    let a = c.args in
    let ns = nodes_by a.nodes.now in
    let nil = sym (c.is_nil.ensures.nil a.nodes.now.kids.now c.requires.made c.requires.clean) ∙ c.if-not-is_nil.true in
    fn_put (show (env_by a.env.now) ns) (is_nil ns) (ty_of a.receiver.0) a.i.0 (kind_means a.nodes.now.kids.now a.k).kids (ty_of a.ret.0) false nil
    c.put.ensures c.show_all.ensures c.put-2.ensures c.show_params.ensures
    (puts_then c.put-3.ensures (puts_then c.put-then-not-is_nil.ensures c.show_all-then-not-is_nil.ensures))
