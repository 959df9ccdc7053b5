-- `call_ask::tested::get_mod` meets its contract: a chart that no test turns back is that of its records, and the walk's answer is the definition's.
-- Assumes nothing.
use mathlib.Core.List.{List}
use Rattle.scope.specs.Types.{ty_of}
use Rattle.scope.specs.Nodes.{Node}
use Rattle.scope.specs.Force.{get_mod}
use Rattle.scope.specs.Calls.{get_mod_call}
use Rattle.sound.specs.Tests.{env_lent}
use Rattle.refusals.proofs.Laws.{err_told}
use Rattle.promise.proofs.Laws.{inside_tested}
use Rattle.promise.proofs.ReadLaws.{read_refused, read_nodes}
use Rattle.call_ask.proofs.tested.Laws.{read_stands, read_records}
use Rattle.call_ask.proofs.tested.get_mod.Goals as goal

pub returns-in_err-inside : goal.returns-in_err-inside
unfolding get_mod_call
returns-in_err-inside c = rw (err_told c.from_residual.result c.from_residual.ensures.1)
    (read_refused (inside_tested c.requires c.in_err-inside.ensures) _)

pub invariant_of-nodes : goal.invariant_of-nodes
invariant_of-nodes c = let stands = read_stands _ _ _ _ c.args.t.0 (inside_tested c.requires c.in_ok-inside.ensures) c.read_header-x.ensures in
    record { room = stands.clean.room }

pub get_mod-requires : goal.get_mod-requires
get_mod-requires c = let a = c.args in
    let test = inside_tested c.requires c.in_ok-inside.ensures in
    read_stands _ _ _ _ a.t.0 test c.read_header-x.ensures

pub returns : goal.returns
unfolding get_mod_call
returns c = let a = c.args in
    let e = env_lent a.env.now in
    let test = inside_tested c.requires c.in_ok-inside.ensures in
    read_nodes test c.read_header-x.ensures
    (λ (ns : List Node). get_mod e ns (ty_of a.t.0))
    (c.get_mod.ensures.answer e (read_records a.env.now test))
