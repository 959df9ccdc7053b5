-- `copy_lists::copy_all` meets its contract. The loop's invariant: what is left of the list gives what the whole list gives, and the copies so far stand at the
-- front of the answer's list.
-- Assumes nothing.
use Rattle.store.specs.Entries.{types_in}
use Rattle.roots.specs.StaysLent.{StaysLent}
use Rattle.copy_parts.specs.Places.{params_in}
use Rattle.copy_lists.proofs.ListLaws.{Listing}
use Rattle.copy_lists.proofs.copy_all.Given as goal

abbrev pub invariant-loop-i : goal.invariant-loop-i
invariant-loop-i l =
    let nodes = l.fn.finder.nodes.now in
    Listing nodes.words.now nodes.kids.now nodes.made (params_in l.params) (types_in l.ts) l.initial.table l.initial.h l.initial.ws l.initial.ks l.initial.out
    l.table l.h l.ws l.ks l.out l.i
    × StaysLent l.fn.finder l.finder
