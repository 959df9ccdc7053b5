-- `unify_enter::walks::walk_on` meets its contract: what the memory tells, an answer of a walk that is noted where it is a Failure, or a merge of which the memory is told.
-- Assumes nothing.
use Rattle.unify_enter.proofs.walks.Laws.{walk_told, walk_done, walk_binds}
use Rattle.unify_enter.proofs.walks.walk_on.Goals as goal

pub returns-in-Some : goal.returns-in-Some
returns-in-Some c = walk_told c.requires c.look.ensures c.in-Some.is

pub returns-in-Some-walk_roots : goal.returns-in-Some-walk_roots
returns-in-Some-walk_roots c =
    walk_done c.requires c.walk_roots.ensures c.in-Some-walk_roots.is c.walked.ensures

pub returns-in-None : goal.returns-in-None
returns-in-None c =
    walk_binds c.requires c.walk_roots.ensures c.in-None.is c.bind.ensures c.changed.ensures
