-- `names::before` meets its contract. The loop's invariant: from i on the first list comes before the second if and only if it does as a whole.
-- Assumes nothing.
use mathlib.Core.Path.{sym, ◌∙◌}
use native.Mathlib.Omega.{arith}
use Rattle.names.proofs.Laws.{before_other, before_step, before_over}
use Rattle.names.proofs.before.Goals as goal

pub returns-then-a-i : goal.returns-then-a-i
returns-then-a-i c = let s = c.args in
    let end = c.min-i-end.ensures in
    sym (before_other s.a.now s.b.now c.loop-i.i (omega (arith, end, c.loop-i-test.true)) (omega (arith, end, c.loop-i-test.true)) c.if-a-i.true) ∙ c.loop-i.invariant

pub loop-i-preserved : goal.loop-i-preserved
loop-i-preserved c = let s = c.args in
    let end = c.min-i-end.ensures in
    sym (before_step s.a.now s.b.now c.loop-i.i (omega (arith, end, c.loop-i-test.true)) (omega (arith, end, c.loop-i-test.true)) c.if-a-i.false) ∙ c.loop-i.invariant

pub returns : goal.returns
returns c = let s = c.args in
    sym (before_over s.a.now s.b.now c.loop-i.i (omega (arith, c.min-i-end.ensures, c.loop-i.auto.i-end, c.loop-i-test.false))) ∙ c.loop-i.invariant
