-- `sheet_calls::made` meets its contract: each line that makes a type is one call on the store.
-- Assumes nothing.
use mathlib.Core.Path.{refl}
use Rattle.scope.specs.Limits.{NONE}
use Rattle.scope.specs.Calls.{over, new_call, new_var_call, error_call, nil_call}
use Rattle.scope.specs.Sheet.{Line, sheet_line}
use Rattle.layout.specs.Words.{store_in}
use Rattle.store.specs.Entries.{types_in}
use Rattle.sheet_calls.proofs.StoreLaws.{sheet_env_lem, sheet_tested, sheet_passed, sheet_by, as_sheet}
use Rattle.sheet_calls.proofs.Laws.{made, kind_leaves}
use Rattle.sheet_calls.proofs.made.Goals as goal

pub new_var-requires : goal.new_var-requires
new_var-requires c = sheet_passed c.requires.sheet_store

pub once-requires : goal.once-requires
once-requires c = sheet_passed c.requires.sheet_store

pub once-requires-in-Error : goal.once-requires-in-Error
once-requires-in-Error c = sheet_passed c.requires.sheet_store

pub new_over-requires : goal.new_over-requires
new_over-requires c = sheet_by c.requires.sheet_store

pub returns-in-Var : goal.returns-in-Var
unfolding sheet_line
returns-in-Var c =
    let kept = c.new_var.ensures.each (sheet_tested c.requires.sheet_store refl) in
    rw c.in-Var.is (made c.requires.sheet_store Line.var _ c.new_var.result refl (λ out. refl) (as_sheet c.requires.sheet_store refl (λ e l. new_var_call e l NONE) kept))

pub returns-in-Nil : goal.returns-in-Nil
unfolding sheet_line
returns-in-Nil c =
    let kept = c.once.ensures.each (sheet_tested c.requires.sheet_store refl) in
    rw c.in-Nil.is (made c.requires.sheet_store Line.nil _ c.once.result refl (λ out. refl) (as_sheet c.requires.sheet_store refl nil_call kept))

pub returns-in-Error : goal.returns-in-Error
unfolding sheet_line
returns-in-Error c =
    let kept = c.once-in-Error.ensures.each (sheet_tested c.requires.sheet_store refl) in
    rw c.in-Error.is (made c.requires.sheet_store Line.error _ c.once-in-Error.result refl (λ out. refl) (as_sheet c.requires.sheet_store refl error_call kept))

pub returns-in-Over : goal.returns-in-Over
returns-in-Over c =
    let a = c.args in
    let code = c.in-Over.code in
    let ts = a.types.now in
    let fits = rw c.in-Over.is at c.requires.maker_fits in
    let s = store_in a.h.now a.ws.now a.ks.now in
    let kept = c.new_over.ensures.each fits.names _ _ _ (sheet_tested c.requires.sheet_store sheet_env_lem) in
    rw c.in-Over.is
    (made c.requires.sheet_store _ _ c.new_over.result (fits.says s) (λ out. kind_leaves s code (types_in ts) out)
    (as_sheet c.requires.sheet_store sheet_env_lem (λ e l. new_call e l (over code 0 (types_in ts))) kept))
