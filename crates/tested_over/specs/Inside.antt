-- `new_call` once 2, 8 and 3 are passed.
use Rattle.std.specs.Prelude.{◌++◌, length}
use Rattle.scope.specs.Chart.{Env}
use Rattle.scope.specs.Types.{Ty}
use Rattle.scope.specs.Nodes.{Store}
use Rattle.scope.specs.Make.{new}
use Rattle.scope.specs.Calls.{NewKind, Outcome, judged, room_tests, kind_made, made_type}
use Rattle.lent_kind.specs.Lent.{kind_tests}

abbrev pub inside_call : Env → Store → NewKind → Outcome Ty
inside_call e s a = judged (kind_tests e a ++ room_tests s 1 (length a.kids)) (made_type (new s (kind_made e a)))
