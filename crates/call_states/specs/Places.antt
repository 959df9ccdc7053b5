-- The place that a call on a held name is about.
use Rattle.std.specs.Prelude.{List, ℕ}
use Rattle.scope.specs.Base.{pick}
use Rattle.scope.specs.Limits.{MAX_STATES}
use Rattle.scope.specs.States.{Place, under, place_where, name_length}

-- where the name is held; a name of a wrong length is held nowhere
abbrev pub place_held : List ℕ → List Place → ℕ
place_held n ps = pick (name_length n) (place_where (under n) ps) MAX_STATES
