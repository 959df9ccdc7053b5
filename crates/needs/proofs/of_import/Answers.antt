-- `needs::of_import` meets its contract: from no marks and no sums the walk over the list counts what the import needs.
-- Assumes nothing.
use native.Mathlib.Omega.{arith}
use Rattle.scope.specs.Limits.{MAX_NODES}
use Rattle.layout.proofs.LinkLaws.{clean_linked}
use Rattle.roots.proofs.KeptLaws.{cached_zeros}
use Rattle.needs.proofs.SourceLaws.{default_is, start_countable, import_needs}
use Rattle.needs.proofs.of_import.Goals as goal

pub count_all-requires : goal.count_all-requires
count_all-requires c = start_countable {m = MAX_NODES} c.requires (omega arith) (default_is c.default.ensures)

pub invariant_of-finder : goal.invariant_of-finder
invariant_of-finder c = record { linked = clean_linked _ _ _ _ c.requires.readable.clean; cached = cached_zeros _ _ MAX_NODES }

pub returns : goal.returns
returns c =
    import_needs MAX_NODES c.requires c.requires.few (default_is c.default.ensures) c.count_all.ensures.0
