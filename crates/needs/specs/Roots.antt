-- What the walk takes of a root: by its kind and the parameter list it is replaced, lacks its entry, or is a node with so many children.
use Rattle.std.proofs.Math.Option.{Option, none, some}
use Rattle.std.specs.Prelude.{List, ℕ, eqb, ltb, length, Some, None}
use Rattle.scope.specs.Base.{pick}
use Rattle.scope.specs.Types.{Ty}
use Rattle.scope.specs.Kinds.{PARAM}
use Rattle.layout.specs.declared.Kind.{Kind}
use Rattle.layout.specs.Meaning.{Held}
use Rattle.needs.specs.declared.Asks.{Asks}
use Rattle.needs.specs.declared.Asks.TheVariants.{Replaced, Missing, Node}
use Rattle.std.specs.declared.option.Option as option

-- of how many entries a parameter list is, if there is one
abbrev pub Params : Type 0
Params = option.Option ℕ

-- what the walk uses of a parameter list
abbrev pub params_for : Option (List Ty) → Params
params_for none = None
params_for (some ps) = Some (length ps)

abbrev pub param_asks : Params → Kind → Asks
param_asks None k = Node k.first k.count
param_asks (Some m) k = pick (ltb k.number m) Replaced Missing

abbrev pub kind_asks : Params → Kind → Asks
kind_asks p k = pick (eqb k.code PARAM) (param_asks p k) (Node k.first k.count)

abbrev pub asks_of : Params → Held → Asks
asks_of p (Some (i, k)) = kind_asks p k
asks_of p None = Node 0 0
