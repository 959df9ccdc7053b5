-- Walks from node to node, which both kinds of cycle are about. A node's ways on lie in a run of numbered places, and at each place stands a node.
use Rattle.std.specs.Prelude.{◌≡◌, Bool, false, ℕ, zero, suc, ◌+◌, ◌≤◌, ◌<◌}
use Rattle.scope.specs.Base.{all, from}

-- where a node's run begins, how many places it has, and the node at a place
pub record Graph : Type 0 where
  pub first : ℕ → ℕ
  pub deg : ℕ → ℕ
  pub to : ℕ → ℕ

-- every walk from v has at most d nodes, v counted
unfoldable pub ends : Graph → ℕ → ℕ → Bool
ends g zero v = false
ends g (suc d) v = all (λ i. ends g d (g.to i)) (from (g.first v) (g.deg v))

-- the place i is in v's run
pub record InRun (g : Graph) (v i : ℕ) : Type 0 where
  pub from : g.first v ≤ i
  pub below : i < g.first v + g.deg v

-- the ways on from nodes below n lead to nodes below n
pub record Closed (g : Graph) (n : ℕ) : Type 0 where
  pub inside : (v i : ℕ) → v < n → InRun g v i → g.to i < n

-- a node to one who climbs: a root with its size, or what has a parent
pub data Up : Type 0 where
  Root : ℕ → Up
  Parent : ℕ → Up

-- from each node to its parent: one place, or none at a root
abbrev pub deg_by : Up → ℕ
deg_by (Root z) = 0
deg_by (Parent u) = 1

abbrev pub to_by : Up → ℕ
to_by (Root z) = 0
to_by (Parent u) = u

abbrev pub upward : (ℕ → Up) → Graph
upward p = record { first = λ v. v; deg = λ v. deg_by (p v); to = λ v. to_by (p v) }

-- parents lead from a node to a root
pub data Leads (p : ℕ → Up) : ℕ → ℕ → Type 0 where
  here : {v z : ℕ} → p v ≡ Root z → Leads p v v
  more : {v r u : ℕ} → p v ≡ Parent u → Leads p u r → Leads p v r
