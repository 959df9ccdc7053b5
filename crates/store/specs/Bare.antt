-- A kind without number, names or children: what `error`, `nil` and Default are made of.
use Rattle.std.specs.Prelude.{false, ℕ}
use Rattle.names.specs.Place.{no_name}
use Rattle.layout.specs.declared.Kind.{Kind}

abbrev pub bare_kind : ℕ → Kind
bare_kind c = record { code = c; number = 0; dual = false; flex = 0; name = no_name; first = 0; count = 0 }
