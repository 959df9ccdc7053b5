-- What `force_kind` answers, and what it leaves: scope's Forced for each state that a root may have had, and the header with another report count.
use Rattle.std.specs.Prelude.{◌≡◌, true, List, ℕ}
use Rattle.std.proofs.Math.Option.{none, some}
use Rattle.scope.specs.Types.{ty_of}
use Rattle.scope.specs.Force.{forced_error, force_kind}
use Rattle.scope.specs.Force as scope
use Rattle.types.specs.declared.«Type».{«Type»}
use Rattle.layout.specs.Words.{children_made, store_in}
use Rattle.layout.specs.Meaning.{kind_means, state_fits}
use Rattle.layout.specs.declared.Header.{Header}
use Rattle.layout.specs.declared.TypeState.{TypeState}
use Rattle.layout.specs.declared.TypeState.TheVariants.{Known, Unknown, InferenceFailed}
use Rattle.store.specs.Holds.{Became}

abbrev pub forced_means : List ℕ → TypeState → scope.Forced
forced_means ks (Known i k) = record { inv = i.0; kind = kind_means ks k; span = none }
forced_means ks (Unknown p) = forced_error (some p)
forced_means ks InferenceFailed = forced_error none

abbrev pub reporting : Header → ℕ → Header
reporting x r = record {
  nodes = x.nodes;
  children = x.children;
  node_room = x.node_room;
  child_room = x.child_room;
  error = x.error;
  nil = x.nil;
  reports = r;
}

-- the state r that is answered, and the slices afterwards, are those of force_kind
pub record ForcedIs (h ws ks h' ws' : List ℕ) (t : «Type») (r : TypeState) : Type 0 where
  pub answer : forced_means ks r ≡ (force_kind (store_in h ws ks) (ty_of t.0)).0
  -- the kind that is handed out may stand in a node
  pub fits : state_fits ks (children_made h) r ≡ true
  pub store : Became h ws ks h' ws' ks (force_kind (store_in h ws ks) (ty_of t.0)).1
