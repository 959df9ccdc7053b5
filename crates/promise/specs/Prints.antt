-- What a printer promises: its answer is the text's length, and "7 from a printer fills the buffer with the text's first bytes". The store's words are only
-- read. "A second form of each hands back the written front part of that buffer": there the length is the part's, and the refusal, if one stands, is told beside it.
use Rattle.std.specs.Prelude.{◌≡◌, List, ℕ, length, Option, Some, None, Result}
use Rattle.scope.specs.Nodes.{Store}
use Rattle.scope.specs.Calls.{Printed}
use Rattle.promise.specs.Promise.{Reply, value, refusal, reply, outcome_by}
use Rattle.refusals.specs.declared.Refusal.{Refusal}
use Rattle.refusals.specs.Codes.{number}

abbrev pub count_reply : Result ℕ Refusal → Reply ℕ
count_reply r = reply (λ n. n) r

-- the refusal beside a part, if one stands
abbrev pub part_reply : Option Refusal → List ℕ → Reply ℕ
part_reply None part = value (length part)
part_reply (Some r) part = refusal (number r)

-- the outcome p is the reply with the store s, and the buffer afterwards is b
pub record PrintPromised (p : Printed) (r : Reply ℕ) (s : Store) (b : List ℕ) : Type 0 where
  pub outcome : p.answer ≡ outcome_by r s
  pub buffer : p.buffer ≡ b

-- the refusal r, or none, is told beside the part that is handed back
pub record PartPromised (p : Printed) (r : Option Refusal) (bs : List ℕ) (s : Store) : Type 0 where
  pub outcome : p.answer ≡ outcome_by (part_reply r bs) s
  pub part : p.part ≡ bs
