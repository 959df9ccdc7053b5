-- What `force_kind` replies: inversion and kind, with the children's words ks, and the span "in the answer".
use Rattle.std.specs.Prelude.{◌≡◌, Bool, true, List, ℕ, Result, Ok, Err}
use Rattle.scope.specs.Force.{Forced}
use Rattle.scope.specs.Calls.{Outcome}
use Rattle.layout.specs.Words.{children_made}
use Rattle.layout.specs.Meaning.{state_fits}
use Rattle.layout.specs.declared.TypeState.{TypeState}
use Rattle.force.specs.Forcing.{forced_means}
use Rattle.refusals.specs.declared.Refusal.{Refusal}
use Rattle.promise.specs.Promise.{Reply, reply, Promised}

abbrev pub forced_reply : List ℕ → Result TypeState Refusal → Reply Forced
forced_reply ks r = reply (forced_means ks) r

-- the kind that is answered may stand in a store with c children made: its own lie among them, and names that it does not have are zeros
abbrev pub forced_answer_fits : List ℕ → ℕ → Result TypeState Refusal → Bool
forced_answer_fits ks c (Ok f) = state_fits ks c f
forced_answer_fits ks c (Err r) = true

-- what every call promises, and the kind in the answer r fits the store that the slices then hold
pub record ForcePromised (o : Outcome Forced) (r : Result TypeState Refusal) (h ws ks h' ws' : List ℕ) : Type 0 where
  pub fits : forced_answer_fits ks (children_made h') r ≡ true
  pub promised : Promised o (forced_reply ks r) h ws ks h' ws' ks
