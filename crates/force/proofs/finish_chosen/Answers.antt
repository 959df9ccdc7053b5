-- `force::finish_chosen` meets its contract. Each turn finishes the node that it reads, or leaves it where it is not chosen.
-- Assumes nothing.
use mathlib.Core.Path.{ap, ◌∙◌}
use native.Mathlib.Omega.{arith}
use Rattle.layout.specs.declared.Header.{Header}
use Rattle.layout.specs.Words.{store_in}
use Rattle.force.proofs.FinishLaws.{roomy_start, roomy_put, turned_start, chosen_turn, chosen_skip, chosen_end}
use Rattle.force.proofs.finish_chosen.Goals as goal
use Rattle.force.proofs.finish_chosen.Goals.{then-is_chosen, else-is_chosen}

pub loop-i-init : goal.loop-i-init
loop-i-init g c =
    let a = c.args in
    let count = ap (λ (y : Header). y.nodes) c.read_header-n.ensures in (
      count,
      (
        roomy_start a.h.now a.ws.now a.ks.now c.requires.store_clean count,
        λ f p. turned_start a.h.now a.ws.now a.ks.now (f (store_in a.h.now a.ws.now a.ks.now).nodes) c.requires.store_clean,
      ),
    )

pub loop-i-preserved : goal.loop-i-preserved
loop-i-preserved g c =
    let a = c.args in
    let inv = c.loop-i.invariant in
    let below = c.loop-i-test.true in
    elim c.if-is_chosen.branch [
      | then-is_chosen w ↦ let put = w.ws-is ∙ w.finish_node.ensures in
          (inv.0, (roomy_put _ _ inv.1.0 put, λ f p. chosen_turn _ _ _ inv.0 below p c.is_chosen.ensures (omega arith) (inv.1.1 f p) w.if-is_chosen.true put))
      | else-is_chosen w ↦
          (inv.0, (rw w.ws-is inv.1.0, λ f p. rw w.ws-is (chosen_skip _ _ _ inv.0 below p c.is_chosen.ensures (omega arith) (inv.1.1 f p) w.if-is_chosen.false)))
    ]

pub returns : goal.returns
returns g c f p = chosen_end c.loop-i.invariant.0 c.loop-i-test.false p (c.loop-i.invariant.1.1 f p)
