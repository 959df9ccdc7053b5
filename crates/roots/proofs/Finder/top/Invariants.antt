-- `roots::Finder::top` meets its contract. The invariant: a path of the node where the climb is gives one of the node where it began.
-- Assumes nothing.
use Rattle.roots.proofs.PathLaws.{Rises}
use Rattle.roots.proofs.Finder.top.Given as goal

abbrev pub invariant-loop : goal.invariant-loop
invariant-loop l = Rises l.self.nodes.now.words.now l.self.nodes.now.made l.initial.cur.0 l.inv.0 l.cur.0
