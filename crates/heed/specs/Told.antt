-- What a memory is told: m' after m, and ns' after ns.
use Rattle.std.specs.Prelude.{◌≡◌, Bool, true, false, List, ◌⊎◌, ℕ, ◌≤◌}
use Rattle.scope.specs.Limits.{MAX_NODES}
use Rattle.scope.specs.Types.{Ty, ty_of}
use Rattle.scope.specs.Nodes.{Node}
use Rattle.types.specs.declared.UnifyResult.{UnifyResult}
use Rattle.layout.specs.Words.{decode}
use Rattle.roots.specs.Found.{FoundMut}
use Rattle.merge.specs.Meaning.{Adds, Settled}
use Rattle.merge.specs.Quick.{Quick, OneNil}
use Rattle.marks.specs.Marks.{Knows}
use Rattle.recall.specs.Memory.{clock_of, Believed, Tidy, Forgot, New}
use Rattle.heed.specs.Recalls.{Since}

-- what is believed still was believed of the same nodes
pub record Moved (m m' : List ℕ) (ns ns' : List Node) : Type 0 where
  pub tidy : Tidy m'
  pub since : Since (clock_of m) (clock_of m') ns ns'
  pub believed : (a b : ℕ) (q : UnifyResult) → Believed m' a b q → Believed m a b q × (ns' ≡ ns)

-- the same, or it is the answer q of the roots a and b, noted at the clock of their visit's beginning
pub record Closed (m m' : List ℕ) (ns ns' : List Node) (began a b : ℕ) (q : UnifyResult) : Type 0 where
  pub tidy : Tidy m'
  pub since : Since (clock_of m) (clock_of m') ns ns'
  pub believed : (a' b' : ℕ) (q' : UnifyResult) → Believed m' a' b' q' → (Believed m a' b' q' ⊎ New m began a b q a' b' q') × (ns' ≡ ns)

pub record FoundTold (ws : List ℕ) (n : ℕ) (ws' m m' : List ℕ) (t r : ℕ) : Type 0 where
  pub found : FoundMut ws n ws' t r
  pub told : (ks : List ℕ) → Moved m m' (decode ws ks n) (decode ws' ks n)
  pub marks : (i : ℕ) → Knows m' i → Knows m i

-- told that two roots merged, they did; else nothing changed
pub record QuickTold (ws ws' : List ℕ) (n : ℕ) (m m' : List ℕ) (a b : Ty) (r : Bool) : Type 0 where
  pub merged : r ≡ true → Quick ws ws' n a b
  pub forgot : r ≡ true → Forgot m m'
  pub words : r ≡ false → ws' ≡ ws
  pub memory : r ≡ false → m' ≡ m

-- told that two types are done with, they merged or are types of one nil; else nothing changed
pub record SmallTold (ws ws' : List ℕ) (n : ℕ) (m m' : List ℕ) (a b : Ty) (r : Bool) : Type 0 where
  pub done : r ≡ true → (Quick ws ws' n a b × Forgot m m') ⊎ (OneNil ws n a b true × ((ws' ≡ ws) × (m' ≡ m)))
  pub words : r ≡ false → ws' ≡ ws
  pub memory : r ≡ false → m' ≡ m

pub record Settles (ws : List ℕ) (n : ℕ) (m : List ℕ) (a b : Ty) : Type 0 where
  pub adds : Adds ws n a b
  pub small : n ≤ MAX_NODES
  pub tidy : Tidy m

pub record SettledTold (ws ws' : List ℕ) (n : ℕ) (m m' : List ℕ) (began a b : ℕ) (r q : UnifyResult) : Type 0 where
  pub settled : Settled ws ws' n (ty_of a) (ty_of b) r q
  pub told : (ks : List ℕ) → Closed m m' (decode ws ks n) (decode ws' ks n) began a b q
  pub marks : (i : ℕ) → Knows m' i → Knows m i
