-- `sheet_line::run_line` meets its contract: the line is read, and then run.
-- Assumes nothing.
use Rattle.scope.specs.Sheet.{Line}
use Rattle.layout.specs.Words.{store_in}
use Rattle.sheet_calls.proofs.Laws.{ran, ran_like, same_store, show_store}
use Rattle.sheet_line.proofs.run_line.Goals as goal

pub returns-in-Show : goal.returns-in-Show
returns-in-Show c =
    let a = c.args in
    let s = store_in a.h.now a.ws.now a.ks.now in
    let means = rw c.in-Show.is at c.parse_into.ensures.means in
    ran_like means (ran c.requires.sheet_store (Line.show _) c.show_line.ensures (rw (show_store s _) (same_store c.requires.sheet_store)))
