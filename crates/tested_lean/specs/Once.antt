-- 01's call for each of the types that a store makes once.
use Rattle.scope.specs.Chart.{Env}
use Rattle.scope.specs.Types.{Ty}
use Rattle.scope.specs.Sound.{Lent}
use Rattle.scope.specs.Calls.{Outcome, error_call, nil_call}
use Rattle.heads.specs.declared.Once.{Once}
use Rattle.heads.specs.declared.Once.TheVariants.{Error, Nil}

abbrev pub once_call : Once → Env → Lent → Outcome Ty
once_call Error e l = error_call e l
once_call Nil e l = nil_call e l
