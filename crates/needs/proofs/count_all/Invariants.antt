-- `needs::count_all` meets its contract. The loop's invariant: what is left of the list gives what the whole list gives. The measure is what is left
-- of its length. Assumes nothing.
use Rattle.store.specs.Entries.{types_in}
use Rattle.roots.specs.StaysLent.{StaysLent}
use Rattle.needs.proofs.CountLaws.{Turn}
use Rattle.needs.proofs.count_all.Given as goal

abbrev pub invariant-loop-t : goal.invariant-loop-t
invariant-loop-t l =
    let nodes = l.fn.finder.nodes.now in
    Turn nodes.words.now nodes.kids.now nodes.made l.params nodes.made (types_in l.ts) l.initial.marks l.initial.all l.marks l.all l.t-index
    × StaysLent l.fn.finder l.finder
