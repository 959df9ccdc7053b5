-- `call_read::tested::figures` meets its contract: it has no type to test, and the store that the slices hold is its header and its nodes.
-- Assumes nothing.
use mathlib.Core.Path.{◌∙◌}
use Rattle.scope.specs.Nodes.{Store}
use Rattle.scope.specs.Calls.{figures_call}
use Rattle.promise.proofs.Laws.{none_listed}
use Rattle.promise.proofs.ReadLaws.{read_done}
use Rattle.call_read.proofs.tested.Laws.{figures_read}
use Rattle.call_read.proofs.tested.figures.Goals as goal

pub returns : goal.returns
unfolding figures_call
returns c = let a = c.args in
    read_done (none_listed c.requires) (λ (s : Store). s) ∙ figures_read a.h.now a.ws.now a.ks.now c.read_header.ensures
