-- Laws of what stays of a finder: one that is not asked stays, and so does one that is asked again and again.
-- Assumes nothing.
use mathlib.Core.Path.{refl, ◌∙◌}
use Rattle.roots.specs.declared.Finder.{Finder}
use Rattle.roots.specs.StaysLent.{StaysLent}

pub stays_same : (f : Finder) → StaysLent f f
stays_same f = record { nodes = refl; same = refl; long = refl }

pub stays_then : {f f' f'' : Finder} → StaysLent f f' → StaysLent f' f'' → StaysLent f f''
stays_then a b = record { nodes = b.nodes ∙ a.nodes; same = b.same ∙ a.same; long = b.long ∙ a.long }
