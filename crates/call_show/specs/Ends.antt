-- Where a text ended in a lent buffer, as a reply: its length, or 7 where the place lies past the buffer.
use Rattle.std.specs.Prelude.{ℕ, ltb}
use Rattle.scope.specs.Base.{pick}
use Rattle.scope.specs.Refusals.{SHORT}
use Rattle.promise.specs.Promise.{Reply, value, refusal}

abbrev pub end_reply : ℕ → ℕ → Reply ℕ
end_reply room end = pick (ltb room end) (refusal SHORT) (value end)
