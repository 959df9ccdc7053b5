-- What a call asks and promises that is lent no more of a tested store than it looks at, its header and its nodes. The words passed the tests with some chart,
-- texts and children's words; with each with which they pass, the call's outcome is its definition's.
use Rattle.std.specs.Prelude.{◌≡◌, List, ℕ, ◌≤◌, length}
use Rattle.scope.specs.Chart.{Env}
use Rattle.scope.specs.Types.{Ty}
use Rattle.scope.specs.Sound.{Lent}
use Rattle.scope.specs.Calls.{Outcome}
use Rattle.layout.specs.Words.{HEAD_WORDS, nodes_made, children_made, node_room, child_room, store_in, lent_of}
use Rattle.promise.specs.Promise.{Reply, outcome_by, Promised, Tested}

-- header and nodes are those of a tested store
pub record Passed (h ws : List ℕ) : Type 0 where
  pub env : Env
  pub kids : List ℕ
  pub tested : Tested env h ws kids

-- a call that writes
pub record EachPromised (call : Env → Lent → Outcome Ty) (r : Reply Ty) (h ws h' ws' : List ℕ) : Type 0 where
  pub each : {e : Env} {ks : List ℕ} → Tested e h ws ks
      → Promised (call e (lent_of h ws ks)) r h ws ks h' ws' ks

-- a call that reads
pub record EachAnswered (call : Env → Lent → Outcome Ty) (r : Reply Ty) (h ws : List ℕ) : Type 0 where
  pub each : {e : Env} {ks : List ℕ} → Tested e h ws ks
      → call e (lent_of h ws ks) ≡ outcome_by r (store_in h ws ks)

-- a header's words are there, and its counts are within their room
pub record Within (h : List ℕ) : Type 0 where
  pub head : HEAD_WORDS ≤ length h
  pub nodes : nodes_made h ≤ node_room h
  pub children : children_made h ≤ child_room h
