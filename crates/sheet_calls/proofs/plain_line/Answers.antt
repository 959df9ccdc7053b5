-- `sheet_calls::plain_line` meets its contract: each case is one call on the store, or none, and what is printed for its answer.
-- Assumes nothing.
use mathlib.Core.List.{[]}
use mathlib.Core.Path.{refl}
use native.Mathlib.Omega.{arith}
use Rattle.scope.specs.Text.{text}
use Rattle.scope.specs.Calls.{finish_inference_call}
use Rattle.scope.specs.Sheet.{Line, sheet_env, sheet_line}
use Rattle.promise.proofs.CallLaws.{call_done}
use Rattle.sheet_say.proofs.Laws.{front}
use Rattle.sheet_calls.proofs.StoreLaws.{sheet_clean, tests_pass, as_sheet}
use Rattle.sheet_calls.proofs.Laws.{ran, same_store, ran_made, ran_done, finishing}
use Rattle.sheet_calls.proofs.plain_line.Goals as goal

pub finish_inference-requires : goal.finish_inference-requires
finish_inference-requires c = sheet_clean c.requires.sheet_store

pub returns-in-Make : goal.returns-in-Make
returns-in-Make c =
    rw c.in-Make.is (ran_made c.requires.sheet_store _ c.made.ensures c.put_type.ensures)

pub returns-in-Finish : goal.returns-in-Finish
unfolding sheet_line finish_inference_call
returns-in-Finish c =
    let a = c.args in
    let kept =
    as_sheet c.requires.sheet_store refl finish_inference_call
    (call_done sheet_env a.h.now a.ws.now a.ks.now (λ s. []) finishing (tests_pass c.requires.sheet_store) refl c.finish_inference.ensures) in
    rw c.in-Finish.is (ran_done c.requires.sheet_store Line.finish refl _ refl kept (front c.requires.in_bounds (text "done") (omega arith) c.written.ensures))

pub returns-in-Bad : goal.returns-in-Bad
unfolding sheet_line
returns-in-Bad c =
    rw c.in-Bad.is (ran c.requires.sheet_store Line.bad (front c.requires.in_bounds (text "bad line") (omega arith) c.written-in-Bad.ensures) (same_store c.requires.sheet_store))
