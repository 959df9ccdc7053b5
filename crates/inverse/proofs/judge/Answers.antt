-- `inverse::judge` meets its contract: what a root's kind tells without its children.
-- Assumes nothing.
use native.Mathlib.Omega.{arith}
use mathlib.Core.Logic.{inl, inr}
use Rattle.inverse.proofs.RunLaws.{judges_nothing, judges_no, judges_param, judges_bare, judges_run}
use Rattle.inverse.proofs.judge.Goals as goal

pub returns-in_default : goal.returns-in_default
returns-in_default c = judges_nothing c.args.param c.held.ensures c.in_default.is

pub returns-then-not-good_kind : goal.returns-then-not-good_kind
returns-then-not-good_kind c = judges_no c.args.param c.held.ensures c.in-Some.is c.good_kind.ensures c.if-not-good_kind.true

pub returns-then-kind-eq0 : goal.returns-then-kind-eq0
returns-then-kind-eq0 c = elim c.if-kind-eq0.either [
  | inl param ↦ judges_param c.args.param c.held.ensures c.in-Some.is c.good_kind.ensures c.if-not-good_kind.false param
  | inr none ↦ judges_bare c.args.param c.held.ensures c.in-Some.is c.good_kind.ensures c.if-not-good_kind.false (omega (arith, none))
]

pub returns-else-kind-eq0 : goal.returns-else-kind-eq0
returns-else-kind-eq0 c = judges_run c.args.param c.held.ensures c.in-Some.is c.good_kind.ensures c.if-not-good_kind.false c.if-kind-eq0.false.0
