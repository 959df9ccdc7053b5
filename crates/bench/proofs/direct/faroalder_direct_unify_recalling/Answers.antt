-- `bench::direct::faroalder_direct_unify_recalling` meets its contract: a memory that has just begun holds nothing, and its number gives the answer back.
-- Assumes nothing.
use Rattle.unify_lists.proofs.CallerLaws.{inside_pair}
use Rattle.bench.proofs.direct.faroalder_direct_unify_recalling.Goals as goal

pub unify_all-requires : goal.unify_all-requires
unify_all-requires c =
    let given = c.requires in
    inside_pair given.words c.begin.ensures _ _ given.first given.second
