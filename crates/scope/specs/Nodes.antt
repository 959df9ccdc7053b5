-- "From a type to its root": nodes, states, the store, `find` and `find_mut`. Where children lie is no part of a store: a Known state holds them.
use Rattle.std.specs.Prelude.{List, [], Bool, true, false, ℕ, zero, suc, length, get_or, set}
use Rattle.std.proofs.Math.Option.{Option, none, some}
use Rattle.scope.specs.Base.{xor}
use Rattle.scope.specs.Limits.{NONE}
use Rattle.scope.specs.Types.{Ty, flip}
use Rattle.scope.specs.Kinds.{Head}

-- a kind: its head, and its children in order (a Closure's parameters, then its return)
pub record Kind : Type 0 where
  pub head : Head
  pub kids : List Ty

-- "A state is Known (inversion, kind), Unknown (span) or InferenceFailed"
pub data State : Type 0 where
  Known : Bool → Kind → State
  Unknown : ℕ → State
  InferenceFailed : State

-- "A node is a root (state, size) or a child (its parent, a type)"
pub data Node : Type 0 where
  Root : State → ℕ → Node
  Child : Ty → Node

-- "Nodes count from 0". `children` counts those of all nodes ever made; `node_room` and `child_room` were chosen at opening; `error` and `nil`
-- are the types that these two makers return again; `reports` is the report count
pub record Store : Type 0 where
  pub nodes : List Node
  pub children : ℕ
  pub node_room : ℕ
  pub child_room : ℕ
  pub error : Option Ty
  pub nil : Option Ty
  pub reports : ℕ

-- a store just opened
abbrev pub opened : ℕ → ℕ → Store
opened n c = record { nodes = []; children = 0; node_room = n; child_room = c; error = none; nil = none; reports = 0 }

-- a store with other nodes and another count of children
abbrev pub with_made : Store → List Node → ℕ → Store
with_made s ns c = record {
  nodes = ns;
  children = c;
  node_room = s.node_room;
  child_room = s.child_room;
  error = s.error;
  nil = s.nil;
  reports = s.reports;
}

abbrev pub with_nodes : Store → List Node → Store
with_nodes s ns = with_made s ns s.children

-- a store that remembers other types
abbrev pub remembering : Store → Option Ty → Option Ty → Store
remembering s e n = record {
  nodes = s.nodes;
  children = s.children;
  node_room = s.node_room;
  child_room = s.child_room;
  error = e;
  nil = n;
  reports = s.reports;
}

-- the node at a place; past the last one a root of no size
abbrev pub at : List Node → ℕ → Node
at ns i = get_or ns i (Root (Unknown NONE) 0)

-- a child has no state of its own
abbrev pub state_of : Node → State
state_of (Root st z) = st
state_of (Child t) = Unknown NONE

abbrev pub size_of : Node → ℕ
size_of (Root st z) = z
size_of (Child t) = 0

abbrev pub is_root : Node → Bool
is_root (Root st z) = true
is_root (Child t) = false

-- at most f parent steps, "combining inversions by exclusive or"
unfoldable pub climb : ℕ → List Node → Ty → Ty
climb zero ns t = t
climb (suc f) ns t = elim (at ns t.idx) [ Root st z ↦ t | Child u ↦ climb f ns (flip t.inv u) ]

-- "`find` follows parents"
unfoldable pub find : List Node → Ty → Ty
find ns t = climb (length ns) ns t

-- at most f nodes on the path of the type t are pointed at r, the root of t
unfoldable pub compress : ℕ → List Node → Ty → Ty → List Node
compress zero ns r t = ns
compress (suc f) ns r t =
    elim (at ns t.idx) [
      | Root st z ↦ ns
      | Child u ↦ compress f (set ns t.idx (Child (flip t.inv r))) r (flip t.inv u)
    ]

-- "`find_mut` also points every node on the path straight at the root, keeping each node's meaning": the nodes afterwards; its answer is `find`'s
unfoldable pub find_mut : List Node → Ty → List Node
find_mut ns t = compress (length ns) ns (find ns t) t

-- the state that a type leads to
abbrev pub state_at : List Node → Ty → State
state_at ns t = state_of (at ns (find ns t).idx)

-- "A node has no kind if its root isn't Known"
abbrev pub is_known : State → Bool
is_known (Known i k) = true
is_known (Unknown p) = false
is_known InferenceFailed = false

-- the children of a state's kind
abbrev pub kids_of : State → List Ty
kids_of (Known i k) = k.kids
kids_of (Unknown p) = []
kids_of InferenceFailed = []

-- `kind`: a type's inversion and kind, where it has one
abbrev pub kind_of : Ty → State → Option (Bool × Kind)
kind_of r (Known i k) = some (xor i r.inv, k)
kind_of r (Unknown p) = none
kind_of r InferenceFailed = none

unfoldable pub kind : List Node → Ty → Option (Bool × Kind)
kind ns t = kind_of (find ns t) (state_at ns t)
