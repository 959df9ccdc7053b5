-- `sheet_line::show_line` meets its contract: the text, or the refusal over what `show` left.
-- Assumes nothing.
use lib.ListN.{take}
use Rattle.scope.specs.Limits.{SHEET_TEXT}
use Rattle.scope.specs.Types.{ty_of}
use Rattle.scope.specs.Calls.{show_call}
use Rattle.layout.specs.Words.{store_in}
use Rattle.sheet_calls.proofs.StoreLaws.{sheet_tested, as_printed}
use Rattle.sheet_line.proofs.ShowLaws.{shown_fits, shown_back}
use Rattle.sheet_line.proofs.show_line.Goals as goal

pub show-shown-requires : goal.show-shown-requires
show-shown-requires c = sheet_tested c.requires.sheet_store c.empty_env-env.ensures

pub returns-in-Ok : goal.returns-in-Ok
returns-in-Ok c =
    let a = c.args in
    let p = as_printed c.requires.sheet_store c.empty_env-env.ensures (λ e l. show_call e l (ty_of a.t.0) (take SHEET_TEXT a.out.now)) c.show-shown.ensures in
    shown_fits (store_in a.h.now a.ws.now a.ks.now) (ty_of a.t.0) a.out.now c.requires.in_bounds (rw c.in-Ok.is at p)

pub returns-in-Err : goal.returns-in-Err
returns-in-Err c =
    let a = c.args in
    let p = as_printed c.requires.sheet_store c.empty_env-env.ensures (λ e l. show_call e l (ty_of a.t.0) (take SHEET_TEXT a.out.now)) c.show-shown.ensures in
    shown_back (store_in a.h.now a.ws.now a.ks.now) (ty_of a.t.0) a.out.now c.requires.in_bounds (rw c.in-Err.is at p) c.put_refused.ensures
