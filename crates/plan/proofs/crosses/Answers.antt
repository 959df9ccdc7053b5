-- `plan::crosses` meets its contract: a kind crosses by its flag or by its code, as its row says.
-- Assumes nothing.
use mathlib.Core.Path.{refl, sym}
use mathlib.Core.Bool.{and-true}
use native.Mathlib.Omega.{arith}
use Rattle.std.proofs.Common.{inl, inr}
use Rattle.scope.specs.Kinds.{TUPLE, row_of, rows}
use Rattle.plan.proofs.Laws.{one_of, not_crosses}
use Rattle.plan.proofs.crosses.Goals as goal

pub returns-in-4 : goal.returns-in-4
unfolding row_of rows
returns-in-4 c = elim c.in-4.is [ inl e ↦ rw e (sym (and-true c.args.k.dual)) | inr e ↦ rw e (sym (and-true c.args.k.dual)) ]

pub returns-in-1 : goal.returns-in-1
unfolding row_of rows
returns-in-1 c = elim c.in-1.is [ inl e ↦ rw e refl | inr e ↦ rw e refl ]

pub returns-in-1-2 : goal.returns-in-1-2
unfolding row_of rows
returns-in-1-2 c = elim (one_of TUPLE c.args.k.code (omega arith) (omega arith)) [ inl e ↦ rw e refl | inr e ↦ rw e refl ]

pub returns-in_default : goal.returns-in_default
returns-in_default c =
    not_crosses c.args.k (λ e. omega arith) (λ e. omega arith) (λ e. omega arith) (λ e. omega arith) (λ e. omega arith) (λ e. omega arith)

pub returns-in_default-2 : goal.returns-in_default-2
returns-in_default-2 c =
    not_crosses c.args.k (λ e. grind arith) (λ e. grind arith) (λ e. omega arith) (λ e. omega arith) (λ e. grind arith) (λ e. grind arith)
