-- `call_unify::tested::unify_recalling` meets its contract: 3 turns the call back, or the store is sound and both types are inside it, which is all that unifying asks.
-- Assumes nothing.
use Rattle.refusals.proofs.Laws.{err_told}
use Rattle.call_unify.proofs.tested.Laws.{passed, pair_asks, lent_words, back_own, unify_done, unify_form}
use Rattle.call_unify.proofs.tested.unify_recalling.Goals as goal

pub returns-in_err-pair : goal.returns-in_err-pair
returns-in_err-pair c =
    let p = passed {l = c.args.env.now} c.requires c.read_header-x.ensures in
    rw (err_told c.from_residual.result c.from_residual.ensures.1) (back_own p (unify_form _ _).form c.in_err-pair.ensures)

pub unify_all-requires : goal.unify_all-requires
unify_all-requires c =
    let p = passed {l = c.args.env.now} c.requires c.read_header-x.ensures in
    rw c.begin-fixed.ensures.fixed (pair_asks (lent_words p) c.begin-fixed.ensures.begun _ _ c.in_ok-pair.ensures)

pub returns : goal.returns
returns c =
    let p = passed {l = c.args.env.now} c.requires c.read_header-x.ensures in
    unify_done p (unify_form _ _) c.in_ok-pair.ensures c.unify_all.auto.ws (rw c.begin-fixed.ensures.fixed at c.unify_all.ensures.leaves)
