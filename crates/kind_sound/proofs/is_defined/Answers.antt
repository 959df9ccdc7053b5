-- `kind_sound::is_defined` meets its contract: the sort that was read is the definition's, and `defined` is the test of that sort by the kind's row.
-- Assumes nothing.
use mathlib.Core.Path.{sym, ap, ◌∙◌}
use Rattle.scope.specs.Kinds.{row_of}
use Rattle.kinds.specs.Rows.{sort_fits}
use Rattle.kinds.proofs.Laws.{defined_row}
use Rattle.layout.specs.Meaning.{kind_means}
use Rattle.kind_sound.proofs.is_defined.Goals as goal

pub returns : goal.returns
unfolding kind_means
returns c = let args = c.args in
    c.sort_fits.ensures ∙ (ap (sort_fits (row_of args.k.code)) c.sort_at.ensures ∙ sym (defined_row _ _))
