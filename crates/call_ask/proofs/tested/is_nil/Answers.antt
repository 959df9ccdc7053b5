-- `call_ask::tested::is_nil` meets its contract: a refusal is the first test that breaks, and where none does the walk's answer is the definition's.
-- Assumes nothing.
use mathlib.Core.List.{List}
use Rattle.scope.specs.Types.{ty_of}
use Rattle.scope.specs.Nodes.{Node}
use Rattle.scope.specs.Force.{is_nil}
use Rattle.scope.specs.Calls.{is_nil_call}
use Rattle.layout.specs.Words.{children_made}
use Rattle.refusals.proofs.Laws.{err_told}
use Rattle.promise.proofs.Laws.{inside_tested}
use Rattle.promise.proofs.ReadLaws.{read_refused, read_linked, read_clean, read_nodes}
use Rattle.call_ask.proofs.tested.is_nil.Goals as goal

pub returns-in_err-inside : goal.returns-in_err-inside
unfolding is_nil_call
returns-in_err-inside c = rw (err_told c.from_residual.result c.from_residual.ensures.1)
    (read_refused (inside_tested c.requires c.in_err-inside.ensures) _)

pub is_nil-requires : goal.is_nil-requires
is_nil-requires c = let test = inside_tested c.requires c.in_ok-inside.ensures in
    read_linked test c.read_header-x.ensures

pub returns : goal.returns
unfolding is_nil_call
returns c = let a = c.args in
    let head = c.read_header-x.ensures in
    let test = inside_tested c.requires c.in_ok-inside.ensures in
    read_nodes test head (λ (ns : List Node). is_nil ns (ty_of a.t.0))
    (c.is_nil.ensures.nil a.ks.now (children_made a.h.now) (read_clean test head))
