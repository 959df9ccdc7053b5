-- What the calls ask and give, over the n nodes in ws whose children lie in ks. That a walk marks just what a type leads to, which `occurs` and
-- `self_inverse` go by, holds where nodes can be walked, as sound ones can.
use Rattle.std.specs.Prelude.{◌≡◌, Bool, true, Option, Some, List, ℕ, ◌-◌, ◌≤◌, ◌<◌}
use Rattle.scope.specs.Base.{any}
use Rattle.scope.specs.Limits.{MAX_NODES}
use Rattle.scope.specs.Chart.{Env}
use Rattle.scope.specs.Types.{Ty, ty_of}
use Rattle.scope.specs.Nodes.{Node, at, is_root, find}
use Rattle.scope.specs.Unify.{occurs}
use Rattle.scope.specs.Force.{is_nil, get_mod}
use Rattle.scope.proofs.Marks.{Walkable}
use Rattle.layout.specs.Words.{decode}
use Rattle.layout.specs.Meaning.{Clean}
use Rattle.layout.specs.declared.Nodes.{Nodes}
use Rattle.chart.specs.Words.{records_of}
pub use Rattle.related.specs.Stands.{Stands, StandsIn}
use Rattle.walk.specs.declared.Mod.{Mod}
use Rattle.walk.specs.Read.{mod_means}

-- what a look at a kind's children ts tells of x, in a walk of depth n from the kind on
pub record Looked (ns : List Node) (n x : ℕ) (ts : List Ty) (r : Option Bool) : Type 0 where
  pub told : (b : Bool) → r ≡ Some b → any (λ t. occurs (n - 1) ns x (find ns t).idx) ts ≡ b

-- nodes that can be walked, with a mark for each
pub record Walks (ws ks : List ℕ) (n : ℕ) : Type 0 where
  pub stands : Stands ws ks n
  pub few : n ≤ MAX_NODES
  pub walkable : Walkable (decode ws ks n)

-- `occurs`: of a node in a root
pub record Occurs (ws ks : List ℕ) (n x y : ℕ) : Type 0 where
  pub walks : Walks ws ks n
  pub node : x < n
  pub inside : (ty_of y).idx < n
  pub root : is_root (at (decode ws ks n) (ty_of y).idx) ≡ true

-- the same of the nodes that are lent
abbrev pub OccursIn : Nodes → ℕ → ℕ → Type 0
OccursIn s x y = Occurs s.words.now s.kids.now s.made x y

-- `self_inverse`: of a type
pub record Inverses (ws ks : List ℕ) (n t : ℕ) : Type 0 where
  pub walks : Walks ws ks n
  pub inside : (ty_of t).idx < n

-- the same of the nodes that are lent
abbrev pub InversesIn : Nodes → ℕ → Type 0
InversesIn s t = Inverses s.words.now s.kids.now s.made t

-- `is_nil`, whatever the children's words are
pub record Nil (ws : List ℕ) (n t : ℕ) (r : Bool) : Type 0 where
  pub nil : (ks : List ℕ) (c : ℕ) → Clean ws ks c n → r ≡ is_nil (decode ws ks n) (ty_of t)

-- `get_mod`, whatever stands beside the chart
pub record Modded (ws ks : List ℕ) (n : ℕ) (chart : List ℕ) (t : ℕ) (r : Mod) : Type 0 where
  pub answer : (e : Env) → e.records ≡ records_of chart → mod_means r ≡ get_mod e (decode ws ks n) (ty_of t)

-- the same of the nodes that are lent
abbrev pub ModdedIn : Nodes → List ℕ → ℕ → Mod → Type 0
ModdedIn s chart t r = Modded s.words.now s.kids.now s.made chart t r
