-- `sheet_say::put_unify` meets its contract: a piece for each answer.
-- Assumes nothing.
use native.Mathlib.Omega.{arith}
use Rattle.scope.specs.Text.{text}
use Rattle.sheet_say.proofs.Laws.{front}
use Rattle.sheet_say.proofs.put_unify.Goals as goal

pub returns-in-Success : goal.returns-in-Success
returns-in-Success c =
    rw c.in-Success.is (front c.requires (text "Success") (omega arith) c.written.ensures)

pub returns-in-Failure : goal.returns-in-Failure
returns-in-Failure c =
    rw c.in-Failure.is (front c.requires (text "Failure") (omega arith) c.written-in-Failure.ensures)

pub returns-in-Indeterminate : goal.returns-in-Indeterminate
returns-in-Indeterminate c =
    rw c.in-Indeterminate.is (front c.requires (text "Indeterminate") (omega arith) c.written-in-Indeterminate.ensures)
