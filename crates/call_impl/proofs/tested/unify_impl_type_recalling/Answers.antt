-- `call_impl::tested::unify_impl_type_recalling` meets its contract: as `unify_types`, with 5 for a number that is no trait's.
-- Assumes nothing.
use Rattle.refusals.proofs.Laws.{err_told}
use Rattle.call_unify.proofs.tested.Laws.{passed, lent_words, back_own, unify_done}
use Rattle.call_impl.proofs.tested.Laws.{impls_ask, impls_beside, impls_form}
use Rattle.call_impl.proofs.tested.unify_impl_type_recalling.Goals as goal

pub returns-in_err-impls : goal.returns-in_err-impls
returns-in_err-impls c =
    let p = passed {l = c.args.env.now} c.requires c.read_header-x.ensures in
    rw (err_told c.from_residual.result c.from_residual.ensures.1) (back_own p (impls_form _ _).form (impls_beside c.args.env.now _ _ c.in_err-impls.ensures))

pub unify_impl_type-requires : goal.unify_impl_type-requires
unify_impl_type-requires c =
    let p = passed {l = c.args.env.now} c.requires c.read_header-x.ensures in
    rw c.begin-fixed.ensures.fixed (impls_ask (lent_words p) c.begin-fixed.ensures.begun _ _ _ c.in_ok-impls.ensures)

pub returns : goal.returns
returns c =
    let p = passed {l = c.args.env.now} c.requires c.read_header-x.ensures in
    unify_done p (impls_form _ _) (impls_beside c.args.env.now _ _ c.in_ok-impls.ensures) c.unify_impl_type.auto.ws (rw c.begin-fixed.ensures.fixed at c.unify_impl_type.ensures.leaves)
