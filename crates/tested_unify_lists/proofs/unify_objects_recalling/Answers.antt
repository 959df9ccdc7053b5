-- `tested_unify_lists::unify_objects_recalling` meets its contract: as `unify`, over the entries of two objects.
-- Assumes nothing.
use Rattle.chart.specs.Env.{texts_lent}
use Rattle.refusals.proofs.Laws.{err_told}
use Rattle.call_unify.proofs.tested.Laws.{passed, lent_words, back_own, unify_done}
use Rattle.tested_unify_lists.proofs.Laws.{objects_ask, objects_leave, objects_beside, objects_form}
use Rattle.tested_unify_lists.proofs.unify_objects_recalling.Goals as goal

pub returns-in_err-objects : goal.returns-in_err-objects
returns-in_err-objects c =
    let p = passed {l = c.args.env.now} c.requires c.read_header-x.ensures in
    rw (err_told c.from_residual.result c.from_residual.ensures.1) (back_own p (objects_form _ _ _).form (objects_beside c.args.env.now _ _ c.in_err-objects.ensures))

pub unify_entries-requires : goal.unify_entries-requires
unify_entries-requires c =
    let p = passed {l = c.args.env.now} c.requires c.read_header-x.ensures in
    rw c.begin-fixed.ensures.fixed (objects_ask (lent_words p) c.begin-fixed.ensures.begun (texts_lent c.args.env.now) c.args.xs.now c.args.ys.now c.in_ok-objects.ensures c.args.inv)

pub returns : goal.returns
returns c =
    let p = passed {l = c.args.env.now} c.requires c.read_header-x.ensures in
    unify_done p (objects_form _ _ _) (objects_beside c.args.env.now _ _ c.in_ok-objects.ensures) c.unify_entries.auto.ws
    (objects_leave (lent_words p) c.begin-fixed.ensures.begun (texts_lent c.args.env.now) c.args.xs.now c.args.ys.now c.in_ok-objects.ensures c.args.inv.0
    (rw c.begin-fixed.ensures.fixed at c.unify_entries.ensures.leaves))
