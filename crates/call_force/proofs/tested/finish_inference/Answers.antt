-- `call_force::tested::finish_inference` meets its contract: a tested store is clean, and there is nothing to refuse.
-- Assumes nothing.
use mathlib.Core.List.{[]}
use mathlib.Core.Path.{refl}
use Rattle.scope.specs.Calls.{finish_inference_call}
use Rattle.sound.specs.Tests.{env_lent}
use Rattle.promise.proofs.Laws.{tested_clean}
use Rattle.promise.proofs.CallLaws.{call_done}
use Rattle.call_force.proofs.tested.Laws.{finishing}
use Rattle.call_force.proofs.tested.finish_inference.Goals as goal

pub finish_inference-requires : goal.finish_inference-requires
finish_inference-requires c = tested_clean c.requires

pub returns : goal.returns
unfolding finish_inference_call
returns c = let pre = c.requires in
    let a = c.args in
    let e = env_lent a.env.now in
    call_done e a.h.now a.ws.now a.ks.now (λ s. []) finishing pre.passed refl c.finish_inference.ensures
