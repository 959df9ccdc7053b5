-- `call_ask::tested::self_inverse_param` meets its contract: a store that no test turns back can be walked, and the walk's answer is the definition's.
-- Assumes nothing.
use mathlib.Core.List.{List}
use Rattle.scope.specs.Types.{ty_of}
use Rattle.scope.specs.Nodes.{Node}
use Rattle.scope.specs.Unify.{self_inverse_of}
use Rattle.scope.specs.Calls.{self_inverse_call}
use Rattle.refusals.proofs.Laws.{err_told}
use Rattle.promise.proofs.Laws.{inside_tested}
use Rattle.promise.proofs.ReadLaws.{read_refused, read_nodes}
use Rattle.call_ask.proofs.tested.Laws.{read_inverses}
use Rattle.call_ask.proofs.tested.self_inverse_param.Goals as goal

pub returns-in_err-inside : goal.returns-in_err-inside
unfolding self_inverse_call
returns-in_err-inside c = rw (err_told c.from_residual.result c.from_residual.ensures.1)
    (read_refused (inside_tested c.requires c.in_err-inside.ensures) _)

pub invariant_of-nodes : goal.invariant_of-nodes
invariant_of-nodes c = let asks = read_inverses _ _ _ _ c.args.t.0 (inside_tested c.requires c.in_ok-inside.ensures) c.read_header-x.ensures in
    record { room = asks.walks.stands.clean.room }

pub self_inverse-requires : goal.self_inverse-requires
self_inverse-requires c = let a = c.args in
    let test = inside_tested c.requires c.in_ok-inside.ensures in
    read_inverses _ _ _ _ a.t.0 test c.read_header-x.ensures

pub returns : goal.returns
unfolding self_inverse_call
returns c = let a = c.args in
    let test = inside_tested c.requires c.in_ok-inside.ensures in
    read_nodes test c.read_header-x.ensures
    (λ (ns : List Node). self_inverse_of ns (ty_of a.t.0) a.param) c.self_inverse.ensures
