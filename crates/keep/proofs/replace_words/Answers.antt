-- `keep::replace_words` meets its contract: the words are copied, and where more were in use those behind are cleared in a part of their own.
-- Assumes nothing.
use mathlib.Core.Path.{◌∙◌}
use Rattle.keep.proofs.Replace.{copied_replaced, part_replaced}
use Rattle.keep.proofs.replace_words.Goals as goal

pub returns-then-count-used : goal.returns-then-count-used
returns-then-count-used c =
    let a = c.args in
    part_replaced a.used a.count a.from.now a.to.now c.requires c.if-count-used.true c.copy_words.ensures
    c.clear.ensures

pub returns-else-count-used : goal.returns-else-count-used
returns-else-count-used c =
    let a = c.args in
    c.copy_words.ensures ∙ copied_replaced a.used a.count a.from.now a.to.now c.if-count-used.false
