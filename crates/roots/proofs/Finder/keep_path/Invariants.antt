-- `roots::Finder::keep_path` meets its contract. The invariant: the finder stays, and the node where the loop is has the root that is kept next.
-- Assumes nothing.
use Rattle.scope.specs.Types.{ty_of}
use Rattle.roots.specs.Kept.{RootedIn}
use Rattle.roots.specs.StaysLent.{StaysLent}
use Rattle.roots.proofs.Finder.keep_path.Given as goal

abbrev pub invariant-loop : goal.invariant-loop
invariant-loop l = StaysLent l.initial.self l.self × RootedIn l.self.nodes.now l.cur.0 (ty_of l.top.0)
