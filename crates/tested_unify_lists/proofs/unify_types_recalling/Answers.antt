-- `tested_unify_lists::unify_types_recalling` meets its contract: as `unify`, over the types of two lists.
-- Assumes nothing.
use Rattle.refusals.proofs.Laws.{err_told}
use Rattle.call_unify.proofs.tested.Laws.{passed, lent_words, back_own, unify_done}
use Rattle.tested_unify_lists.proofs.Laws.{lists_ask, types_form}
use Rattle.tested_unify_lists.proofs.unify_types_recalling.Goals as goal

pub returns-in_err-lists : goal.returns-in_err-lists
returns-in_err-lists c =
    let p = passed {l = c.args.env.now} c.requires c.read_header-x.ensures in
    rw (err_told c.from_residual.result c.from_residual.ensures.1) (back_own p (types_form _ _ _).form c.in_err-lists.ensures)

pub unify_lists-requires : goal.unify_lists-requires
unify_lists-requires c =
    let p = passed {l = c.args.env.now} c.requires c.read_header-x.ensures in
    rw c.begin-fixed.ensures.fixed (lists_ask (lent_words p) c.begin-fixed.ensures.begun _ _ _ c.in_ok-lists.ensures)

pub returns : goal.returns
returns c =
    let p = passed {l = c.args.env.now} c.requires c.read_header-x.ensures in
    unify_done p (types_form _ _ _) c.in_ok-lists.ensures c.unify_lists.auto.ws (rw c.begin-fixed.ensures.fixed at c.unify_lists.ensures.leaves)
