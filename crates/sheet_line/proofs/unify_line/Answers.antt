-- `sheet_line::unify_line` meets its contract: it is the call on a tested store, over the empty chart, and what is printed for its answer.
-- Assumes nothing.
use mathlib.Core.Path.{refl}
use Rattle.scope.specs.Types.{ty_of}
use Rattle.scope.specs.Calls.{unify_call}
use Rattle.scope.specs.Sheet.{Line, sheet_line}
use Rattle.sheet_calls.proofs.StoreLaws.{sheet_tested, as_sheet}
use Rattle.sheet_calls.proofs.Laws.{ran_answer, ran_refused}
use Rattle.sheet_line.proofs.unify_line.Goals as goal

pub unify_recalling-answer-requires : goal.unify_recalling-answer-requires
unify_recalling-answer-requires c = sheet_tested c.requires.sheet_store c.empty_env-env.ensures

pub returns-in-Ok : goal.returns-in-Ok
unfolding sheet_line
returns-in-Ok c =
    let p = as_sheet c.requires.sheet_store c.empty_env-env.ensures (λ e l. unify_call e l (ty_of c.args.a.0) (ty_of c.args.b.0)) c.unify_recalling-answer.ensures in
    ran_answer c.requires.sheet_store (Line.unify _ _) refl _ refl (rw c.in-Ok.is at p) c.put_unify.ensures

pub returns-in-Err : goal.returns-in-Err
unfolding sheet_line
returns-in-Err c =
    let p = as_sheet c.requires.sheet_store c.empty_env-env.ensures (λ e l. unify_call e l (ty_of c.args.a.0) (ty_of c.args.b.0)) c.unify_recalling-answer.ensures in
    ran_refused c.requires.sheet_store (Line.unify _ _) refl _ refl (rw c.in-Err.is at p) c.put_refused.ensures
