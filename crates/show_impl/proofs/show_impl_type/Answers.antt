-- `show_impl::show_impl_type` meets its contract: what the code finds decides the pieces.
-- Assumes nothing.
use mathlib.Core.Path.{◌≡◌}
use native.Mathlib.Omega.{arith}
use borrow.Author.Tests.{ltb-true, ltb-false}
use borrow.Author.Rules.{rules}
use Rattle.std.specs.Prelude.{None}
use Rattle.scope.specs.Show.{render, show_impl_type}
use Rattle.chart.specs.Env.{env_by}
use Rattle.layout.specs.Lent.{nodes_by}
use Rattle.layout.proofs.LinkLaws.{clean_linked}
use Rattle.show_impl.proofs.Laws.{other_trait, other_count, by_tuple}
use Rattle.show_impl.proofs.show_impl_type.Goals as goal
use Rattle.show_impl.proofs.show_impl_type.Goals.{else-xs-lt3-via-then-xs-lt3, else-xs-lt3-via-else-xs-lt3+else-xs-lt4}
use Rattle.show_impl.proofs.show_impl_type.Goals.{else-xs-lt3-via-in-len3+else-i-env, else-xs-lt3-via-in-len3+then-i-env+in-None-1}

pub returns-in_default : goal.returns-in_default
unfolding show_impl_type render
returns-in_default c = rw c.in_default.is c.put.ensures

pub tuple_of-requires : goal.tuple_of-requires
tuple_of-requires c = clean_linked _ _ _ _ c.requires.clean

pub returns-in-Some : goal.returns-in-Some
unfolding show_impl_type
returns-in-Some c = let a = c.args in
    let e = env_by a.env.now in
    rw (c.in-Trait.is, by_tuple e c.in-Trait.i c.in-Trait.xs.now c.requires c.if-i-env.true (omega arith) c.tuple_of.ensures c.in-Some.is) c.show_fn.ensures

pub returns-else-xs-lt3 : goal.returns-else-xs-lt3
unfolding show_impl_type
returns-else-xs-lt3 c =
    let a = c.args in
    let e = env_by a.env.now in
    let ns = nodes_by a.nodes.now in
    elim c.else-xs-lt3.branch [
      | else-xs-lt3-via-then-xs-lt3 w ↦ rw (c.in-Trait.is, other_count e c.in-Trait.i c.in-Trait.xs.now ns (λ z. omega (arith, ltb-true))) c.show_trait.ensures
      | else-xs-lt3-via-else-xs-lt3+else-xs-lt4 w ↦ rw (c.in-Trait.is, other_count e c.in-Trait.i c.in-Trait.xs.now ns (λ z. omega (arith, ltb-false))) c.show_trait.ensures
      | else-xs-lt3-via-in-len3+else-i-env w ↦ rw (c.in-Trait.is, other_trait e c.in-Trait.i c.in-Trait.xs.now ns w.if-i-env.false) c.show_trait.ensures
      | else-xs-lt3-via-in-len3+then-i-env+in-None-1 w ↦
          let none : w.tuple_of.result ≡ None = search rules in
          rw (c.in-Trait.is, by_tuple e c.in-Trait.i c.in-Trait.xs.now c.requires w.if-i-env.true (omega arith) w.tuple_of.ensures none) c.show_trait.ensures
    ]
