-- What a printer's answer says beside the part that is handed back: a refusal, if one stands; and the part's length, "on 7 the whole buffer, on any other
-- refusal an empty part".
use Rattle.std.specs.Prelude.{◌≡◌, List, ℕ, eqb, length, take, Option, Result, Ok, Err}
use Rattle.std.specs.Result.{result_err}
use Rattle.scope.specs.Base.{pick}
use Rattle.scope.specs.Refusals.{SHORT}
use Rattle.refusals.specs.declared.Refusal.{Refusal}
use Rattle.refusals.specs.Codes.{number}

abbrev pub part_in : Result ℕ Refusal → ℕ → ℕ
part_in (Ok n) room = n
part_in (Err r) room = pick (eqb (number r) SHORT) room 0

-- of the buffer buf and the answer r the refusal o is told, and the part is handed back
pub record Back (r : Result ℕ Refusal) (buf : List ℕ) (o : Option Refusal) (part : List ℕ) : Type 0 where
  pub told : o ≡ result_err r
  pub front : part ≡ take (part_in r (length buf)) buf
