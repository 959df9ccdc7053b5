-- `unify_lists::unify_fn_sig` meets its contract: the parameters as two lists, then the returns as a pair.
-- Assumes nothing.
use Rattle.unify_lists.proofs.Laws.{sig_parameters, sig_returns, sig_law}
use Rattle.unify_lists.proofs.unify_fn_sig.Goals as goal

pub unify_lists-q-requires : goal.unify_lists-q-requires
unify_lists-q-requires c = sig_parameters c.requires

pub unify-r-requires : goal.unify-r-requires
unify-r-requires c =
    sig_returns c.requires c.unify_lists-q.ensures

pub returns : goal.returns
returns c =
    sig_law c.requires c.unify_lists-q.ensures c.unify-r.ensures c.and.ensures
