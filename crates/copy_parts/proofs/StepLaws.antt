-- What the leaves of the copying leave in words. Assumes nothing.
use mathlib.Core.Path.{◌≡◌, ap, ◌∙◌}
use mathlib.Core.List.{List}
use Prim.Native.Nat.{ℕ, ◌+◌, ◌<◌}
use native.Mathlib.Omega.{arith}
use lib.ListN.{set}
use Rattle.scope.specs.Limits.{MAX_NODES}
use Rattle.types.specs.declared.«Type».{«Type»}
use Rattle.store.specs.Holds.{Ready}
use Rattle.make.specs.Made.{BlankMade}
use Rattle.make.proofs.MakeLaws.{RoomIn, ready_room}
use Rattle.copy_parts.specs.Steps.{Begun}

-- the copy's number and 1 fits
pub begin_fits : {h ws ks h' ws' : List ℕ} {span count : ℕ} {t : «Type»} → Ready h ws ks 1 count → BlankMade h ws ks h' ws' span count t → t.0 < MAX_NODES
begin_fits {h} {count = count} r o = let q : RoomIn h 1 count = ready_room r in omega (arith, o.node)

pub begin_is : {table h ws ks table' h' ws' : List ℕ} {i span count : ℕ} {t : «Type»} → BlankMade h ws ks h' ws' span count t → table' ≡ set table i (t.0 + 1)
    → Begun table h ws ks i span count table' h' ws' t
begin_is {table} {i = i} o w = record { blank = o; noted = w ∙ ap (λ (n : ℕ). set table i (n + 1)) o.node }
