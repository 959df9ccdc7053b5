-- `clean::room_clean` meets its contract: slices that are long enough are tested for unused words, as `room_clean` does.
-- Assumes nothing.
use mathlib.Core.Path.{sym, ◌∙◌}
use Rattle.layout.proofs.StoreLaws.{lies}
use Rattle.clean.proofs.room_clean.Goals as goal

pub unused_zero-requires : goal.unused_zero-requires
unused_zero-requires c = let a = c.args in
    lies a.h.now a.ws.now a.ks.now (sym c.long_enough.ensures ∙ c.if-long_enough.true)
