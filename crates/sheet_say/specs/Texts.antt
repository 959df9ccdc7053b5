-- What the code's answers are printed as; scope's `say_refused` and `say_type` have the same of an outcome.
use Rattle.std.specs.Prelude.{List, ◌++◌, ℕ, Result, Ok, Err}
use Rattle.scope.specs.Text.{text}
use Rattle.scope.specs.Types.{ty_of}
use Rattle.scope.specs.Show.{decimal}
use Rattle.types.specs.declared.«Type».{«Type»}
use Rattle.refusals.specs.declared.Refusal.{Refusal}
use Rattle.refusals.specs.Codes.{number}

-- "A refusal prints as `refused 3`"
abbrev pub refused_text : ℕ → List ℕ
refused_text n = text "refused " ++ decimal n

-- "`=` and the node"
abbrev pub type_text : Result «Type» Refusal → List ℕ
type_text (Ok t) = text "=" ++ decimal (ty_of t.0).idx
type_text (Err e) = refused_text (number e)
