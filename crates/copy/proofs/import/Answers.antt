-- `copy::import` meets its contract: from an empty table on, the list's copies are what the import makes.
-- Assumes nothing.
use Rattle.scope.specs.Limits.{MAX_NODES}
use Rattle.copy.proofs.WholeLaws.{import_copyable, import_is}
use Rattle.layout.proofs.LinkLaws.{clean_linked}
use Rattle.roots.proofs.KeptLaws.{cached_zeros}
use Rattle.copy.proofs.import.Goals as goal

pub copy_all-requires : goal.copy_all-requires
copy_all-requires c = record { all_copyable = import_copyable MAX_NODES c.requires c.requires.source.few; ts_in_bounds = c.requires.long }

pub invariant_of-finder : goal.invariant_of-finder
invariant_of-finder c = record { linked = clean_linked _ _ _ _ c.requires.source.readable.clean; cached = cached_zeros _ _ MAX_NODES }

pub returns : goal.returns
returns c =
    import_is MAX_NODES c.requires c.requires.source.few c.copy_all.ensures.0
