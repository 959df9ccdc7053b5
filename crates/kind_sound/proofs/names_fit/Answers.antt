-- `kind_sound::names_fit` meets its contract. Each way out is a law on a kind whose row asks for these names; the row that was read is scope's.
-- Assumes nothing.
use mathlib.Core.Path.{refl, sym, ap, ◌∙◌}
use mathlib.Core.Bool.{not}
use native.Mathlib.Omega.{arith}
use borrow.Author.Tests.{eq-eqb}
use Rattle.scope.specs.Kinds.{Row, NO_NAMES, OWN_NAME, CHILD_NAMES, PARAMETER_NAMES}
use Rattle.names.specs.Place.{texts_by}
use Rattle.kind_sound.proofs.NameLaws.{own_names, child_names_lem, parameter_names, no_return, no_names}
use Rattle.kind_sound.proofs.names_fit.Goals as goal

pub returns-in-No : goal.returns-in-No
returns-in-No c = let a = c.args in
    let row = rw c.in-No.is at (ap (λ (r : Row). r.names) c.row_of.ensures) in
    sym
    (no_names (texts_by a.texts.now) a.ks.now a.k NO_NAMES row (λ e. omega (arith, e)) (λ e. omega (arith, e))
    (λ e. omega (arith, e)))

pub returns-in-Own : goal.returns-in-Own
returns-in-Own c = let a = c.args in
    let row = rw c.in-Own.is at (ap (λ (r : Row). r.names) c.row_of.ensures) in
    c.name_ok.ensures
    ∙ sym (own_names (texts_by a.texts.now) a.ks.now a.k OWN_NAME row refl)

pub returns-in-OfChildren : goal.returns-in-OfChildren
returns-in-OfChildren c = let a = c.args in
    let row = rw c.in-OfChildren.is at (ap (λ (r : Row). r.names) c.row_of.ensures) in
    c.child_names_fit.ensures
    ∙ sym (child_names_lem (texts_by a.texts.now) a.ks.now a.k CHILD_NAMES row refl)

pub returns-then-k-ne0 : goal.returns-then-k-ne0
returns-then-k-ne0 c = let a = c.args in
    let row = rw c.in-OfParameters.is at (ap (λ (r : Row). r.names) c.row_of.ensures) in
    c.parameter_names_fit.ensures
    ∙ sym (parameter_names (texts_by a.texts.now) a.ks.now a.k PARAMETER_NAMES row refl c.if-k-ne0.true)

pub returns-else-k-ne0 : goal.returns-else-k-ne0
returns-else-k-ne0 c = let a = c.args in
    let row = rw c.in-OfParameters.is at (ap (λ (r : Row). r.names) c.row_of.ensures) in
    ap not (eq-eqb _ _ c.if-k-ne0.false)
    ∙ sym (no_return (texts_by a.texts.now) a.ks.now a.k PARAMETER_NAMES row refl c.if-k-ne0.false)
