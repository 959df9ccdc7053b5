-- What a call promises that answers types, written at the front of a lent list of numbers: "the answer's buffer" keeps what stands past them, and a
-- refusal "leaves all memory as found".
use Rattle.std.specs.Prelude.{◌≡◌, false, List, map, ℕ, take, drop, Result}
use Rattle.scope.specs.Types.{Ty, ty_of}
use Rattle.scope.specs.Calls.{Outcome}
use Rattle.promise.specs.Promise.{Reply, reply, answered, Promised}
use Rattle.refusals.specs.declared.Refusal.{Refusal}

-- the answer, with the words that stand at the front
abbrev pub list_reply : Result (Unit {0}) Refusal → List ℕ → Reply (List Ty)
list_reply r ws = reply (λ u. map ty_of ws) r

-- the list was `out` and is now `out'`; the n types of an answer are its first n words
pub record ListPromised (o : Outcome (List Ty)) (r : Result (Unit {0}) Refusal) (n : ℕ) (h ws ks h' ws' ks' out out' : List ℕ) : Type 0 where
  pub promised : Promised o (list_reply r (take n out')) h ws ks h' ws' ks'
  pub rest : drop n out' ≡ drop n out
  pub kept : answered (list_reply r (take n out')) ≡ false → out' ≡ out
