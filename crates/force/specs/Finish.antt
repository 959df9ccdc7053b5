-- "only roots without a kind change, each to Default uninverted": what that does to the words of one node, and which nodes a list of bytes chooses.
use Rattle.std.specs.Prelude.{◌≡◌, ◌<◌, List, Bool, true, false, not, ℕ, eqb, get_or, length}
use Rattle.scope.specs.Base.{pick}
use Rattle.scope.specs.Kinds.{DEFAULT}
use Rattle.scope.specs.Nodes.{Node, at, with_nodes}
use Rattle.scope.specs.Force.{finish_node}
use Rattle.types.specs.declared.TypeIdx.{TypeIdx}
use Rattle.layout.specs.Words.{store_in}
use Rattle.layout.specs.Meaning.{node_size, put_at}
use Rattle.layout.specs.declared.TypeState.TheVariants.{Known, Unknown, InferenceFailed}
use Rattle.layout.specs.declared.TypeNode.{TypeNode}
use Rattle.layout.specs.declared.TypeNode.TheVariants.{Root, Child}
use Rattle.store.specs.Bare.{bare_kind}
use Rattle.store.specs.Holds.{Became}

-- a root of this size whose kind is Default
abbrev pub default_root : ℕ → TypeNode
default_root z = Root (Known (record { 0 = false }) (bare_kind DEFAULT)) z

abbrev pub lacks_kind : TypeNode → Bool
lacks_kind (Root (Known i k) z) = false
lacks_kind (Root (Unknown p) z) = true
lacks_kind (Root InferenceFailed z) = true
lacks_kind (Child t) = false

-- node i of n, which is v, once it is finished
abbrev pub finish_words : List ℕ → ℕ → ℕ → TypeNode → List ℕ
finish_words ws n i v = pick (lacks_kind v) (put_at ws n i (default_root (node_size v))) ws

-- "nonzero chooses, absent means no"
abbrev pub chosen : List ℕ → ℕ → Bool
chosen bs i = not (eqb (get_or bs i 0) 0)

-- the slices hold the store with the nodes that f makes of its own
abbrev pub Finished : List ℕ → List ℕ → List ℕ → List ℕ → (List Node → List Node) → Type 0
Finished h ws ks ws' f = Became h ws ks h ws' ks (with_nodes (store_in h ws ks) (f (store_in h ws ks).nodes))

-- f finishes, of at most as many nodes as a u32 numbers, those that P says to be chosen
pub record Finishes (P : TypeIdx → Bool → Type 0) (f : List Node → List Node) : Type 0 where
  pub long : (ns : List Node) → length (f ns) ≡ length ns
  pub each : (ns : List Node) (j : ℕ) (b : Bool) → j < length ns → j < 4294967296 → P (record { 0 = j }) b → at (f ns) j ≡ finish_node b (at ns j)

-- the slices hold the store with the nodes that such an f makes of its own
abbrev pub FinishedBy : (TypeIdx → Bool → Type 0) → List ℕ → List ℕ → List ℕ → List ℕ → Type 0
FinishedBy P h ws ks ws' = (f : List Node → List Node) → Finishes P f → Finished h ws ks ws' f
