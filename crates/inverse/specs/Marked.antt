-- A walk with marks, beside marks of nodes that are known to be good and so is all below them: what it asks, and what it leaves.
use Rattle.std.specs.Prelude.{◌≡◌, Bool, true, false, not, ◌||◌, List, ℕ, ◌<◌, eqb, get_or}
use Rattle.scope.specs.Types.{ty_of}
use Rattle.scope.specs.Unify.{self_inverse_of}
use Rattle.scope.proofs.Marks.{Walkable}
use Rattle.scope.proofs.MarkLaws.{GoodBelow, Told}
use Rattle.layout.specs.Words.{decode}
use Rattle.layout.specs.Meaning.{read_at, held_in}
use Rattle.layout.specs.Meaning.{Held}
use Rattle.layout.specs.declared.Nodes.{Nodes}
use Rattle.std.specs.declared.option.Option.TheVariants as held
use Rattle.related.specs.Stands.{Stands}
use Rattle.inverse.specs.Judged.{good_kind}

-- a root that lets a type be its own inverse, children apart
abbrev pub good_by : Bool → Held → Bool
good_by param (held.Some (i, k)) = good_kind param k
good_by param held.None = false

-- a node that the walk did not mark, or one with a good kind
abbrev pub good_at : List ℕ → ℕ → List ℕ → Bool → ℕ → Bool
good_at ws n ms param i = not (eqb (get_or ms i 0) 1) || good_by param (held_in (read_at ws n i))

-- nodes that can be walked, a type of them, and marks of known ones
pub record Beside (ws ks : List ℕ) (n : ℕ) (ms : List ℕ) (t : ℕ) (param : Bool) : Type 0 where
  pub stands : Stands ws ks n
  pub walkable : Walkable (decode ws ks n)
  pub told : Told param (decode ws ks n) ms
  pub inside : (ty_of t).idx < n

-- the same of the nodes that are lent
abbrev pub BesideIn : Nodes → List ℕ → ℕ → Bool → Type 0
BesideIn s ms t param = Beside s.words.now s.kids.now s.made ms t param

-- the answer; where it is true every marked node is now known
pub record MarkedAll (ws ks : List ℕ) (n : ℕ) (ms' : List ℕ) (t : ℕ) (param : Bool) (r : Bool) : Type 0 where
  pub same : r ≡ self_inverse_of (decode ws ks n) (ty_of t) param
  pub good : r ≡ true → (i : ℕ) → (get_or ms' i 0 ≡ 0 → ⊥) → GoodBelow param (decode ws ks n) i

-- the same of the nodes that are lent
abbrev pub MarkedAllIn : Nodes → List ℕ → ℕ → Bool → Bool → Type 0
MarkedAllIn s ms' t param r = MarkedAll s.words.now s.kids.now s.made ms' t param r
