-- What an impl type is.
use Rattle.std.specs.Prelude.{map}
use Rattle.scope.specs.Types.{ty_of}
use Rattle.scope.specs.Unify as scope
use Rattle.types.specs.declared.Impl.{Impl}
use Rattle.types.specs.declared.Impl.TheVariants.{Trait, Error}

abbrev pub impl_means : Impl → scope.ImplType
impl_means (Trait i xs) = scope.Trait i (map ty_of xs.now)
impl_means Error = scope.Error
