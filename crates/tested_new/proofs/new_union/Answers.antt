-- `tested_new::new_union` meets its contract: a Union's row has no names, and the call is `new` of a kind over the list.
-- Assumes nothing.
use Rattle.scope.specs.Calls.{new_union_call}
use Rattle.lent_kind.proofs.ListLaws.{union_row}
use Rattle.tested_new.proofs.new_union.Goals as goal

pub returns : goal.returns
unfolding new_union_call
returns c = let l = c.args.env.now in
    c.new_over.ensures.each union_row l.beside l.texts.rule.now l.texts.chart.now c.requires
