-- `call_force::tested::force_kind` meets its contract: a type that passes the tests is forced by the core, on a store that is clean, and the answer is the core's.
-- Assumes nothing.
use Rattle.refusals.proofs.Laws.{err_told}
use Rattle.promise.proofs.Laws.{inside_tested}
use Rattle.call_force.proofs.tested.Laws.{forced_back, forced_clean, forced_done}
use Rattle.call_force.proofs.tested.force_kind.Goals as goal

pub returns-in_err-inside : goal.returns-in_err-inside
returns-in_err-inside c = rw (err_told c.from_residual.result c.from_residual.ensures.1)
    (forced_back c.args.t (inside_tested c.requires c.in_err-inside.ensures))

pub force_kind-requires : goal.force_kind-requires
force_kind-requires c = forced_clean c.args.t (inside_tested c.requires c.in_ok-inside.ensures)

pub returns : goal.returns
returns c = forced_done c.args.t (inside_tested c.requires c.in_ok-inside.ensures) c.force_kind.ensures
