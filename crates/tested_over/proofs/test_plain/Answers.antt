-- `tested_over::test_plain` meets its contract: the tests are those of scope's definitions, in their order, and a kind without names has none to test.
-- Assumes nothing.
use mathlib.Core.Path.{refl, sym, ◌∙◌}
use native.Mathlib.Omega.{arith}
use Rattle.tested_over.proofs.PlainLaws.{code_unmade, shape_unmade, number_unmade, undefined_over, over_passed}
use Rattle.tested_over.proofs.test_plain.Goals.{
  then-k-gt-ERROR-via-then-k-gt-ERROR,
  then-k-gt-ERROR-via-else-k-gt-ERROR+then-not-shape_fits,
  then-k-gt-ERROR-via-else-k-gt-ERROR+else-not-shape_fits+then-not-number_ok,
}
use Rattle.tested_over.proofs.test_plain.Goals as goal

pub returns-then-k-gt-ERROR : goal.returns-then-k-gt-ERROR
returns-then-k-gt-ERROR c =
    λ rule text ts many.
    elim c.then-k-gt-ERROR.branch [
      | then-k-gt-ERROR-via-then-k-gt-ERROR w ↦ code_unmade c.args.chart.now c.args.k.code c.args.k.number c.args.n c.requires.code_value c.requires.n_bound rule text ts many (omega arith)
      | then-k-gt-ERROR-via-else-k-gt-ERROR+then-not-shape_fits w ↦
          shape_unmade c.args.chart.now c.args.k.code c.args.k.number c.args.n c.requires.code_value c.requires.n_bound rule text ts many (omega arith)
          (sym w.shape_fits.ensures ∙ w.if-not-shape_fits.true)
      | then-k-gt-ERROR-via-else-k-gt-ERROR+else-not-shape_fits+then-not-number_ok w ↦
          number_unmade c.args.chart.now c.args.k.code c.args.k.number c.args.n c.requires.code_value c.requires.n_bound rule text ts many (omega arith)
          (sym w.shape_fits.ensures ∙ w.if-not-shape_fits.false) (sym w.number_ok.ensures ∙ w.if-not-number_ok.true)
    ]

pub returns-then-not-is_defined : goal.returns-then-not-is_defined
returns-then-not-is_defined c =
    λ rule text ts many.
    undefined_over c.args.chart.now c.args.k.code c.args.k.number c.args.n c.requires.code_value c.requires.n_bound rule text ts many (omega arith)
    (sym c.shape_fits.ensures ∙ c.if-not-shape_fits.false) (sym c.number_ok.ensures ∙ c.if-not-number_ok.false)
    c.args.k refl refl c.is_defined.ensures c.if-not-is_defined.true

pub returns : goal.returns
returns c =
    λ rule text ts many.
    over_passed c.args.chart.now c.args.k.code c.args.k.number c.args.n c.requires.code_value c.requires.n_bound rule text ts many (omega arith)
    (sym c.shape_fits.ensures ∙ c.if-not-shape_fits.false) (sym c.number_ok.ensures ∙ c.if-not-number_ok.false)
    c.args.k refl refl c.is_defined.ensures c.if-not-is_defined.false
