-- What a type and an inversion print.
use Rattle.std.specs.Prelude.{Bool, List, [], ◌++◌, ℕ, codes, decimal}
use Rattle.scope.specs.Base.{pick}
use Rattle.scope.specs.Types.{Ty}

-- a ~ where a type is inverted
abbrev pub inverted_text : Bool → List ℕ
inverted_text i = pick i (codes "~") []

-- `3` or `~3`
abbrev pub type_text : Ty → List ℕ
type_text t = inverted_text t.inv ++ decimal t.idx
