-- `unify_lists::unify_impl_type` meets its contract: an error answers Indeterminate, different traits Failure, and the same trait unifies its types as two lists.
-- Assumes nothing.
use Rattle.unify_lists.proofs.Laws.{impl_error, impl_against, impl_other, impl_lists}
use Rattle.unify_lists.proofs.unify_impl_type.Goals as goal

pub returns-in_default : goal.returns-in_default
returns-in_default c = impl_against c.requires c.in_default.is-0 c.in_default.is-1

pub returns-in_default-2 : goal.returns-in_default-2
returns-in_default-2 c = impl_error c.requires c.in_default.is-0

pub returns-then-i-j : goal.returns-then-i-j
returns-then-i-j c = impl_other c.requires c.in-Trait-Trait.is-0 c.in-Trait-Trait.is-1 c.if-i-j.true

pub returns : goal.returns
returns c = impl_lists c.requires c.in-Trait-Trait.is-0 c.in-Trait-Trait.is-1 c.if-i-j.false c.unify_lists.ensures
