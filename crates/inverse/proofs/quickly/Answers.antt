-- `inverse::quickly` meets its contract: a root that tells by itself, and else what some visits tell.
-- Assumes nothing.
use Rattle.layout.proofs.LinkLaws.{clean_linked}
use Rattle.inverse.proofs.RunLaws.{glance_bad, glance_good, glance_run}
use Rattle.inverse.proofs.quickly.Goals as goal

pub find_in-requires : goal.find_in-requires
find_in-requires c = clean_linked _ _ _ _ c.requires.0.clean

pub returns-in-Bad : goal.returns-in-Bad
returns-in-Bad c =
    glance_bad c.requires.0 c.requires.1 c.find_in.ensures c.idx-root.ensures c.judge.ensures c.in-Bad.is

pub returns-in-Good : goal.returns-in-Good
returns-in-Good c =
    glance_good c.requires.0 c.requires.1 c.find_in.ensures c.idx-root.ensures c.judge.ensures c.in-Good.is

pub returns-in-Run : goal.returns-in-Run
returns-in-Run c =
    glance_run c.requires.0 c.requires.1 c.find_in.ensures c.idx-root.ensures c.judge.ensures c.in-Run.is c.visits.ensures c.inverse_run.ensures
