-- `book::put_name` meets its contract. The invariant: the first i bytes are written and the words behind them are as they were.
-- Assumes nothing.
use mathlib.Core.Path.{◌≡◌}
use Rattle.book.proofs.Search.{bytes_put}
use Rattle.book.proofs.put_name.Given as goal

abbrev pub invariant-loop-i : goal.invariant-loop-i
invariant-loop-i l = l.ps ≡ bytes_put l.initial.ps l.name l.i
