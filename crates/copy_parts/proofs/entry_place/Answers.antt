-- `copy_parts::entry_place` meets its contract: no entry, or an entry.
-- Assumes nothing.
use mathlib.Core.Path.{◌∙◌}
use borrow.Author.Rules.{rules}
use Rattle.scope.specs.Types.{flip}
use Rattle.copy_parts.proofs.PlaceLaws.{place_missing, place_entry}
use Rattle.copy_parts.proofs.entry_place.Goals as goal

pub returns-in_default : goal.returns-in_default
returns-in_default c = place_missing (search rules)

pub returns : goal.returns
returns c =
    place_entry c.in-Some.ensures.lookup.3.0 (c.in-Some.ensures.lookup.3.1 0)
    (c.invert_if-2.ensures ∙ (λ z. flip (c.inv.ensures z) (c.invert_if.ensures z)))
