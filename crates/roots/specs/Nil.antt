-- What a root's kind tells of nil.
use Rattle.std.specs.Prelude.{Bool, false, ◌&&◌, eqb}
use Rattle.scope.specs.Kinds.{TUPLE}
use Rattle.layout.specs.Meaning.{Held}
use Rattle.std.specs.declared.option.Option.TheVariants as held

-- a Tuple of nothing
abbrev pub nil_by : Held → Bool
nil_by (held.Some (i, k)) = eqb k.code TUPLE && eqb k.count 0
nil_by held.None = false
