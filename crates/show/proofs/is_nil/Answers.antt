-- `show::is_nil` meets its contract: by walk's law, from the root that the cache gives.
-- Assumes nothing.
use mathlib.Core.Path.{refl}
use Rattle.walk.proofs.Answers.{nil_is}
use Rattle.show.proofs.is_nil.Goals as goal

pub returns : goal.returns
returns c = (nil_is c.find-root.ensures.0 c.idx.ensures refl refl c.nil_at.ensures, c.find-root.ensures.1)
