-- `tested_new::new_struct` meets its contract: a Struct's row has no names, and the call is `new` of a kind over the list.
-- Assumes nothing.
use Rattle.scope.specs.Calls.{new_struct_call}
use Rattle.lent_kind.proofs.ListLaws.{struct_row}
use Rattle.tested_new.proofs.new_struct.Goals as goal

pub returns : goal.returns
unfolding new_struct_call
returns c = let l = c.args.env.now in
    c.new_over.ensures.each struct_row l.beside l.texts.rule.now l.texts.chart.now c.requires
