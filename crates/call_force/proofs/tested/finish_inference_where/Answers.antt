-- `call_force::tested::finish_inference_where` meets its contract: a tested store is clean, and there is nothing to refuse.
-- Assumes nothing.
use mathlib.Core.List.{[]}
use mathlib.Core.Path.{refl}
use Rattle.scope.specs.Calls.{finish_where_call}
use Rattle.sound.specs.Tests.{env_lent}
use Rattle.promise.proofs.Laws.{tested_clean}
use Rattle.promise.proofs.CallLaws.{call_done}
use Rattle.call_force.proofs.tested.Laws.{finishing_where}
use Rattle.call_force.proofs.tested.finish_inference_where.Goals as goal

pub finish_inference_where-requires : goal.finish_inference_where-requires
finish_inference_where-requires c = tested_clean c.requires

pub returns : goal.returns
unfolding finish_where_call
returns c = let pre = c.requires in
    let a = c.args in
    let e = env_lent a.env.now in
    call_done e a.h.now a.ws.now a.ks.now (λ s. []) (finishing_where a.bytes.now) pre.passed refl c.finish_inference_where.ensures
