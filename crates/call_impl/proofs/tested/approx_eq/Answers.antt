-- `call_impl::tested::approx_eq` meets its contract: as `unify_impl_type`, and nothing is written.
-- Assumes nothing.
use mathlib.Core.Path.{ap, sym}
use mathlib.Core.Bool.{Bool}
use Rattle.scope.specs.Calls.{done}
use Rattle.layout.specs.Words.{store_in}
use Rattle.refusals.proofs.Laws.{err_told}
use Rattle.call_unify.proofs.tested.Laws.{passed, back_own, read_done}
use Rattle.call_impl.proofs.tested.Laws.{impls_beside, approx_form}
use Rattle.call_impl.proofs.tested.approx_eq.Goals as goal

pub returns-in_err-impls : goal.returns-in_err-impls
returns-in_err-impls c =
    let p = passed {l = c.args.env.now} c.requires c.read_header-x.ensures in
    rw (err_told c.from_residual.result c.from_residual.ensures.1) (back_own p (approx_form _ _) (impls_beside c.args.env.now _ _ c.in_err-impls.ensures))

pub returns : goal.returns
returns c =
    let a = c.args in
    let p = passed {l = c.args.env.now} c.requires c.read_header-x.ensures in
    read_done p (approx_form _ _) (impls_beside a.env.now _ _ c.in_ok-impls.ensures)
    (ap (λ (t : Bool). done t (store_in a.h.now a.ws.now a.ks.now)) (sym c.same_trait.ensures))
