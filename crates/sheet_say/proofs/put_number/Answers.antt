-- `sheet_say::put_number` meets its contract: eight bytes, then the number.
-- Assumes nothing.
use native.Mathlib.Omega.{arith}
use borrow.Author.Rules.{rules}
use Rattle.scope.specs.Text.{text}
use Rattle.sheet_say.proofs.Laws.{front_number}
use Rattle.sheet_say.proofs.put_number.Goals as goal

pub returns : goal.returns
returns c =
    let said = front_number c.requires (text "refused ") c.args.n (omega arith) c.put.ensures.text c.put_decimal.ensures.text in
    search (rules, said)
