-- What becomes of a source root, as the code reads it: a type that stands for it, or a new node with so many children.
use Rattle.std.specs.Prelude.{◌≡◌, Bool, List, ℕ, ◌+◌, get_or}
use Rattle.std.proofs.Math.Option.{Option, none, some}
use Rattle.scope.specs.Base.{pick}
use Rattle.scope.specs.Types.{Ty, ty_of}
use Rattle.scope.specs.Kinds.{PARAM}
use Rattle.scope.specs.Nodes.{State, Known, at, state_of}
use Rattle.scope.specs.Import.{keep, replaced, span_of}
use Rattle.scope.proofs.CopyTable.{Copying, Copied, copy_root, copy_at}
use Rattle.types.specs.declared.«Type».{«Type»}
use Rattle.types.specs.declared.Inverted.{Inverted}
use Rattle.types.specs.declared.TypeIdx.{TypeIdx}
use Rattle.layout.specs.Words.{decode}
use Rattle.layout.specs.Meaning.{read_at, held_in, kind_means, Clean}
use Rattle.layout.specs.declared.Kind.{Kind}
use Rattle.layout.specs.Meaning.{Held}
use Rattle.std.specs.declared.option.Option as option
use Rattle.std.specs.declared.option.Option.TheVariants as held
use Rattle.std.specs.Borrow.{Bor}
use Rattle.store.specs.Entries.{types_in}
use Rattle.copy_parts.specs.declared.Place.{Place}
use Rattle.copy_parts.specs.declared.Place.TheVariants.{Is, Node}

-- the parameter list that is lent, if any
abbrev pub params_in : option.Option (Bor (List ℕ)) → Option (List Ty)
params_in (held.Some ps) = some (types_in ps.now)
params_in held.None = none

-- the same of a flag and words, as C lends it: with none, the words say nothing
abbrev pub list_of : Bool → List ℕ → Option (List Ty)
list_of with ps = pick with (some (types_in ps)) none

-- of a root r in state st that has no copy
abbrev pub Becomes : Option (List Ty) → State → Ty → Place → Type 0
Becomes ps st r (Is u) = (g : Copying → Ty → Copied) (c : Copying) → copy_root g c r st (replaced ps st) ≡ record { to = c; type = ty_of u.0 }
Becomes ps st r (Node span first m) = (replaced ps st ≡ keep) × (span_of st ≡ span)

-- where the children lie of what a root holds, and how many they are

abbrev pub held_first : Held → ℕ
held_first (held.Some (i, k)) = k.first
held_first held.None = 0

abbrev pub held_count : Held → ℕ
held_count (held.Some (i, k)) = k.count
held_count held.None = 0

abbrev pub Runs : Held → Place → Type 0
Runs v (Is u) = Unit {0}
Runs v (Node span first m) = (held_first v ≡ first) × (held_count v ≡ m)

pub record KindPlace (ps : Option (List Ty)) (root : «Type») (i : Inverted) (k : Kind) (r : Place) : Type 0 where
  pub becomes : (ks : List ℕ) → Becomes ps (Known i.0 (kind_means ks k)) (ty_of root.0) r
  pub run : Runs (held.Some (i, k)) r

-- of a Param with that number, where there is a list
pub record EntryPlace (ps : List ℕ) (root : «Type») (i : Inverted) (number : ℕ) (r : Place) : Type 0 where
  pub each : (k : Kind) → k.code ≡ PARAM → k.number ≡ number → KindPlace (some (types_in ps)) root i k r

pub record StatePlace (ws : List ℕ) (n : ℕ) (ps : Option (List Ty)) (root : «Type») (r : Place) : Type 0 where
  pub becomes : (ks : List ℕ) (c : ℕ) → Clean ws ks c n → Becomes ps (state_of (at (decode ws ks n) (ty_of root.0).idx)) (ty_of root.0) r
  pub run : Runs (held_in (read_at ws n (ty_of root.0).idx)) r

-- what a number of the table says: it is 1 more than the copy, and 0 where there is none
pub record CopyNoted (w : ℕ) (r : option.Option TypeIdx) : Type 0 where
  pub copied : (i : TypeIdx) → r ≡ held.Some i → w ≡ i.0 + 1
  pub new : r ≡ held.None → w ≡ 0

-- of a root r in state st for which the table has the number w
abbrev pub Goes : Option (List Ty) → State → Ty → ℕ → Place → Type 0
Goes ps st r w (Is u) = (g : Copying → Ty → Copied) (c : Copying) → copy_at g c r st (replaced ps st) w ≡ record { to = c; type = ty_of u.0 }
Goes ps st r w (Node span first m) = (w ≡ 0) × ((replaced ps st ≡ keep) × (span_of st ≡ span))

pub record RootPlace (ws : List ℕ) (n : ℕ) (ps : Option (List Ty)) (table : List ℕ) (root : «Type») (r : Place) : Type 0 where
  pub goes : (ks : List ℕ) (c : ℕ) → Clean ws ks c n
      → Goes ps (state_of (at (decode ws ks n) (ty_of root.0).idx)) (ty_of root.0) (get_or table (ty_of root.0).idx 0) r
  pub run : Runs (held_in (read_at ws n (ty_of root.0).idx)) r
