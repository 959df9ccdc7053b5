-- `append::put_decimal` meets its contract: the library's decimals are scope's.
-- Assumes nothing.
use native.Mathlib.Omega.{arith}
use Rattle.append.proofs.Laws.{decimals_same}
use Rattle.append.proofs.put_decimal.Goals as goal

pub returns : goal.returns
returns c = rw (c.as_bytes.ensures.value, c.format.ensures.text, decimals_same c.args.n (omega arith)) at c.put.ensures
