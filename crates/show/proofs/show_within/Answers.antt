-- `show::show_within` meets its contract: a cache of zeros keeps nothing yet.
-- Assumes nothing.
use Rattle.layout.proofs.LinkLaws.{clean_linked}
use Rattle.roots.proofs.KeptLaws.{cached_zeros}
use Rattle.show.proofs.show_within.Goals as goal

pub invariant_of-finder : goal.invariant_of-finder
invariant_of-finder g c = record { linked = clean_linked _ _ _ _ c.requires.stands.clean; cached = cached_zeros _ _ g.row.ROOM }
