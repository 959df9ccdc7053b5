-- Whether a root is its own inverse: what that asks beside a memory, and what it leaves there.
use Rattle.std.specs.Prelude.{◌≡◌, Bool, true, false, List, ℕ, ◌≤◌, ◌<◌}
use Rattle.scope.specs.Limits.{MAX_NODES}
use Rattle.scope.specs.Types.{ty_of}
use Rattle.scope.specs.Nodes.{at, is_root}
use Rattle.scope.specs.Unify.{self_inverse_at}
use Rattle.scope.proofs.Marks.{Walkable}
use Rattle.layout.specs.Words.{decode}
use Rattle.layout.specs.declared.Nodes.{Nodes}
use Rattle.marks.specs.Marks.{Beside}
use Rattle.heed.specs.Recalls.{Marks}
use Rattle.related.specs.Stands.{Stands}

-- the root in the word a, of nodes that can be walked, and marks of roots that are their own inverses
pub record OwnAsks (ws ks m : List ℕ) (n a : ℕ) : Type 0 where
  pub stands : Stands ws ks n
  pub few : n ≤ MAX_NODES
  pub walkable : Walkable (decode ws ks n)
  pub inside : (ty_of a).idx < n
  pub root : is_root (at (decode ws ks n) (ty_of a).idx) ≡ true
  pub marks : Marks (decode ws ks n) m

-- the same of the nodes that are lent
abbrev pub OwnAsksIn : Nodes → List ℕ → ℕ → Type 0
OwnAsksIn s m a = OwnAsks s.words.now s.kids.now m s.made a

-- the answer; m' after m has other marks at most, each of such a root
pub record OwnTold (ws ks m m' : List ℕ) (n a : ℕ) (r : Bool) : Type 0 where
  pub same : r ≡ self_inverse_at false n (decode ws ks n) (ty_of a).idx
  pub beside : Beside m m'
  pub marks : Marks (decode ws ks n) m'

-- the same of the nodes that are lent
abbrev pub OwnToldIn : Nodes → List ℕ → List ℕ → ℕ → Bool → Type 0
OwnToldIn s m m' a r = OwnTold s.words.now s.kids.now m m' s.made a r
