-- `sheet_lines::node_of` meets its contract. The digits passed give n, which is below a power of ten; those to come, started from n, give the whole word's value.
-- Assumes nothing.
use mathlib.Core.Path.{sym, ap, ◌∙◌}
use mathlib.Core.Option.{some}
use native.Mathlib.Omega.{arith}
use lib.ListN.{drop_of_length-le}
use Rattle.scope.specs.Base.{all}
use Rattle.scope.specs.Sheet.{is_digit, value_from}
use Rattle.types.proofs.Laws.{ty_new}
use Rattle.sheet_lines.proofs.Laws as laws
use Rattle.sheet_lines.proofs.node_of.Goals as goal

pub returns : goal.returns
returns c = let w = c.args.w.now in
    let e = drop_of_length-le w c.loop-d-test.false in
    let s = laws.tens_small c.loop-d.d-index (omega arith) in
    sym
    (laws.node_is c.args.inv.0 w c.loop-d.n c.loop-d.invariant.0
    (sym c.loop-d.invariant.3 ∙ ap (all is_digit) e)
    (sym c.loop-d.invariant.4 ∙ ap (value_from c.loop-d.n) e)
    ∙ ap some (sym (c.new.ensures ∙ ty_new c.args.inv.0 c.loop-d.n (omega arith))))
