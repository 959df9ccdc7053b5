-- `kind_sound::child_names_fit` meets its contract. The loop's invariant: the names from j on, with the last one passed before them, are ascending if and
-- only if all names are.
-- Assumes nothing.
use mathlib.Core.Path.{◌≡◌}
use lib.ListN.{drop}
use Rattle.scope.specs.Names.{bytes}
use Rattle.scope.specs.Kinds.{object_names_ok}
use Rattle.names.specs.Place.{texts_by, name_of}
use Rattle.kind_sound.proofs.NameLaws.{child_names, up_from}
use Rattle.kind_sound.proofs.child_names_fit.Given as goal

abbrev pub invariant-loop-j : goal.invariant-loop-j
invariant-loop-j l = up_from (texts_by l.texts) (bytes (texts_by l.texts) (name_of l.last)) (drop l.j (child_names l.ks l.k.first l.k.count))
    ≡ object_names_ok (texts_by l.texts) (child_names l.ks l.k.first l.k.count)
