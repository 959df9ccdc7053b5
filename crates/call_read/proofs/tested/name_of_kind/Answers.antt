-- `call_read::tested::name_of_kind` meets its contract: the row that was read is scope's, and there is one law for each way that a row has names.
-- Assumes nothing.
use mathlib.Core.Path.{refl, ap}
use native.Mathlib.Omega.{arith}
use Rattle.scope.specs.Kinds.{Row}
use Rattle.call_read.proofs.tested.NameLaws.{own_first, own_later, child_named, parameter_named, parameter_none, nameless}
use Rattle.call_read.proofs.tested.name_of_kind.Goals as goal

pub returns-in-Own : goal.returns-in-Own
returns-in-Own c = let a = c.args in
    let row = rw c.in-Own.is at (ap (λ (r : Row). r.names) c.row_of.ensures) in
    own_first a.ks.now a.kind a.j row refl c.if-j-eq0.true c.told_name.ensures

pub returns-in-OfChildren : goal.returns-in-OfChildren
returns-in-OfChildren c = let a = c.args in
    let row = rw c.in-OfChildren.is at (ap (λ (r : Row). r.names) c.row_of.ensures) in
    child_named a.ks.now a.kind a.j row refl c.child_named.ensures

pub returns-in-OfParameters : goal.returns-in-OfParameters
returns-in-OfParameters c = let a = c.args in
    let row = rw c.in-OfParameters.is at (ap (λ (r : Row). r.names) c.row_of.ensures) in
    parameter_named a.ks.now a.kind a.j row refl c.if-kind-gt0.true c.child_named-in-OfParameters.ensures

pub returns-in_default : goal.returns-in_default
returns-in_default c = let a = c.args in
    let row = rw c.in-Own.is at (ap (λ (r : Row). r.names) c.row_of.ensures) in
    own_later a.ks.now a.kind a.j row refl c.if-j-eq0.false

pub returns-in_default-2 : goal.returns-in_default-2
returns-in_default-2 c = let a = c.args in
    let row = rw c.in-OfParameters.is at (ap (λ (r : Row). r.names) c.row_of.ensures) in
    parameter_none a.ks.now a.kind a.j row refl c.if-kind-gt0.false

pub returns-in_default-3 : goal.returns-in_default-3
returns-in_default-3 c = let a = c.args in
    let row = rw c.in_default.is at (ap (λ (r : Row). r.names) c.row_of.ensures) in
    nameless a.ks.now a.kind a.j row (λ e. omega (arith, e)) (λ e. omega (arith, e)) (λ e. omega (arith, e))
