-- `tested_unify_lists::unify_fn_sig_recalling` meets its contract: as `unify`, over two lists and two types.
-- Assumes nothing.
use Rattle.refusals.proofs.Laws.{err_told}
use Rattle.call_unify.proofs.tested.Laws.{passed, lent_words, back_own, unify_done}
use Rattle.tested_unify_lists.proofs.Laws.{signatures_ask, signatures_form}
use Rattle.tested_unify_lists.proofs.unify_fn_sig_recalling.Goals as goal

pub returns-in_err-signatures : goal.returns-in_err-signatures
returns-in_err-signatures c =
    let p = passed {l = c.args.env.now} c.requires c.read_header-x.ensures in
    rw (err_told c.from_residual.result c.from_residual.ensures.1) (back_own p (signatures_form _ _ _ _).form c.in_err-signatures.ensures)

pub unify_fn_sig-requires : goal.unify_fn_sig-requires
unify_fn_sig-requires c =
    let p = passed {l = c.args.env.now} c.requires c.read_header-x.ensures in
    rw c.begin-fixed.ensures.fixed (signatures_ask (lent_words p) c.begin-fixed.ensures.begun _ _ _ _ c.in_ok-signatures.ensures)

pub returns : goal.returns
returns c =
    let p = passed {l = c.args.env.now} c.requires c.read_header-x.ensures in
    unify_done p (signatures_form _ _ _ _) c.in_ok-signatures.ensures c.unify_fn_sig.auto.ws (rw c.begin-fixed.ensures.fixed at c.unify_fn_sig.ensures.leaves)
