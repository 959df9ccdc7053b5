-- `sheet_say::put_type` meets its contract: a byte and then the node.
-- Assumes nothing.
use native.Mathlib.Omega.{arith}
use borrow.Author.Rules.{rules}
use Rattle.scope.specs.Text.{text}
use Rattle.sheet_say.proofs.Laws.{front_number}
use Rattle.sheet_say.proofs.put_type.Goals as goal

pub returns-in-Ok : goal.returns-in-Ok
returns-in-Ok c =
    let said = front_number c.requires (text "=") c.idx.result.0 (omega arith) c.put.ensures.text c.put_decimal.ensures.text in
    rw (c.in-Ok.is, ← c.idx.ensures) (search (rules, said))
