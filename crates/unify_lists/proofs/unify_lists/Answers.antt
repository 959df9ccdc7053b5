-- `unify_lists::unify_lists` meets its contract. The invariant: the pairs from i on give what all give.
-- Assumes nothing.
use mathlib.Core.Path.{refl, ◌∙◌}
use native.Mathlib.Omega.{arith}
use Rattle.unify_lists.proofs.Laws.{lists_differ, lists_start, list_pair, list_asks, list_next, lists_end}
use borrow.Author.Rules.{rules}
use Rattle.std.proofs.lemmas.Slice.Zip.{zip_turn, zip_end}
use Rattle.std.proofs.lemmas.List.{length_push}
use Rattle.unify_lists.proofs.unify_lists.Goals as goal

pub returns-then-xs-ys : goal.returns-then-xs-ys
returns-then-xs-ys c = lists_differ c.requires c.if-xs-ys.true

pub loop-x-init : goal.loop-x-init
loop-x-init c = (refl, refl, lists_start c.requires c.if-xs-ys.false)

pub unify-requires : goal.unify-requires
unify-requires c =
    let z = zip_turn c.args.xs.now c.args.ys.now c.loop-x.yielded c.into_iter-x-iterator.result c.loop-x.x-iterator c.next.new.self c.next.result (search rules) (search rules)
    c.loop-x.yielded_by _ c.in-Some.is c.next.ensures.steps in
    list_asks (list_pair c.loop-x.invariant.2 c.if-xs-ys.false z.0 (z.2 0) (z.3 0) c.invert_if-y.ensures)

pub loop-x-preserved : goal.loop-x-preserved
loop-x-preserved c =
    let z = zip_turn c.args.xs.now c.args.ys.now c.loop-x.yielded c.into_iter-x-iterator.result c.loop-x.x-iterator c.next.new.self c.next.result (search rules) (search rules)
    c.loop-x.yielded_by _ c.in-Some.is c.next.ensures.steps in
    rw (length_push c.loop-x.yielded) (
      c.unify.auto.ws ∙ c.loop-x.invariant.0,
      c.unify.auto.memory ∙ c.loop-x.invariant.1,
      list_next (list_pair c.loop-x.invariant.2 c.if-xs-ys.false z.0 (z.2 0) (z.3 0) c.invert_if-y.ensures) c.unify.ensures c.and-r.ensures,
    )

pub returns : goal.returns
returns c =
    let z = zip_end c.args.xs.now c.args.ys.now c.loop-x.yielded c.into_iter-x-iterator.result c.loop-x.x-iterator c.next.new.self c.next.result (search rules) (search rules)
    c.loop-x.yielded_by c.in-None.is c.next.ensures.steps in
    lists_end c.loop-x.invariant.2 (omega (arith, z))
