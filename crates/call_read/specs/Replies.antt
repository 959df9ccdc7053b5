-- What the code's answers reply: a node, a figure or a name that is read is what it means in the store; past the end of a kind's children, or of its names,
-- there is none.
use Rattle.std.specs.Prelude.{◌≡◌, List, Bool, true, ℕ, Some, None, Result, Ok, Err}
use Rattle.std.specs.declared.option.Option as option
use Rattle.std.proofs.Math.Option.{Option, none, some}
use Rattle.scope.specs.Names as scope
use Rattle.scope.specs.Types.{Ty, ty_of}
use Rattle.scope.specs.Nodes.{Node, Store}
use Rattle.scope.specs.Calls.{Outcome}
use Rattle.types.specs.declared.«Type».{«Type»}
use Rattle.names.specs.declared.Name.{Name}
use Rattle.names.specs.Place.{name_of}
use Rattle.layout.specs.Words.{children_made, decode, store_in}
use Rattle.layout.specs.Meaning.{node_means, node_fits, store_means}
use Rattle.layout.specs.declared.Header.{Header}
use Rattle.layout.specs.declared.TypeNode.{TypeNode}
use Rattle.refusals.specs.declared.Refusal.{Refusal}
use Rattle.promise.specs.Promise.{Reply, reply, outcome_by}

-- a node as it stands, with its children's words
abbrev pub node_reply : List ℕ → Result TypeNode Refusal → Reply Node
node_reply ks r = reply (node_means ks) r

-- the kind that is answered may stand in a store with c children made: its own lie among them, and names that it does not have are zeros
abbrev pub node_answer_fits : List ℕ → ℕ → Result TypeNode Refusal → Bool
node_answer_fits ks c (Ok v) = node_fits ks c v
node_answer_fits ks c (Err r) = true

-- `node`: the call's outcome o is its reply with the store in h ws ks, and the kind in the answer fits that store
pub record NodePromised (o : Outcome Node) (r : Result TypeNode Refusal) (h ws ks : List ℕ) : Type 0 where
  pub fits : node_answer_fits ks (children_made h) r ≡ true
  pub outcome : o ≡ outcome_by (node_reply ks r) (store_in h ws ks)

-- a child or none, a name or none

abbrev pub child_means : option.Option «Type» → Option Ty
child_means (Some t) = some (ty_of t.0)
child_means None = none

abbrev pub name_means : option.Option Name → Option scope.Name
name_means (Some n) = some (name_of n)
name_means None = none

abbrev pub child_reply : Result (option.Option «Type») Refusal → Reply (Option Ty)
child_reply r = reply child_means r

abbrev pub name_reply : Result (option.Option Name) Refusal → Reply (Option scope.Name)
name_reply r = reply name_means r

-- the counts, capacities, remembered types and report count, over as many nodes as are counted
abbrev pub figures_reply : List ℕ → List ℕ → Result Header Refusal → Reply Store
figures_reply ws ks r = reply (λ x. store_means x (decode ws ks x.nodes)) r
