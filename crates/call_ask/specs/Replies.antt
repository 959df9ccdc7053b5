-- What the code's answers reply: the definition that is found, and the marks.
use Rattle.std.specs.Prelude.{◌≡◌, List, false, ℕ, Result}
use Rattle.scope.specs.Nodes.{Store}
use Rattle.scope.specs.Force as force
use Rattle.scope.specs.Calls.{Outcome}
use Rattle.walk.specs.Read.{mod_means}
use Rattle.walk.specs.declared.Mod.{Mod}
use Rattle.refusals.specs.declared.Refusal.{Refusal}
use Rattle.promise.specs.Promise.{Reply, reply, outcome_by, answered, done_reply}

abbrev pub mod_reply : Result Mod Refusal → Reply force.Mod
mod_reply r = reply mod_means r

-- `find_related` answers the marks afterwards
abbrev pub marks_reply : List ℕ → Result (Unit {0}) Refusal → Reply (List ℕ)
marks_reply ms r = reply (λ u. ms) r

-- the call's outcome o is its reply with the store s; a refusal leaves the marks ms as found
pub record MarksPromised (o : Outcome (List ℕ)) (r : Result (Unit {0}) Refusal) (s : Store) (ms ms' : List ℕ) : Type 0 where
  pub outcome : o ≡ outcome_by (marks_reply ms' r) s
  pub kept : answered (done_reply r) ≡ false → ms' ≡ ms
