-- `shape::find_roots` meets its contract. The loop's invariant: the nodes before the next have their roots, since a root that is known stays known.
-- A root is its own. Who has a root comes to it within n nodes, so a climb that fails shows a parent cycle.
-- Assumes nothing.
use mathlib.Core.Path.{refl, ap, sym, ◌∙◌}
use native.Mathlib.Omega.{arith}
use Rattle.shape.specs.Read.{up_in}
use Rattle.shape.proofs.Laws as laws
use Rattle.shape.proofs.find_roots.Goals as goal
use Rattle.shape.proofs.find_roots.Goals.{in-Root, in-Child+else-not-climb}

pub returns-then-not-climb : goal.returns-then-not-climb
returns-then-not-climb c = laws.lost_all c.loop-i-test.true c.climb.ensures c.if-not-climb.true

pub loop-i-preserved : goal.loop-i-preserved
loop-i-preserved c =
    let inv = c.loop-i.invariant in
    let l = c.loop-i-test.true in
    elim c.match-node.branch [
      | in-Root w ↦
          let own = laws.climb_root _ (omega (arith, c.requires.parents.few, l)) inv.right (ap up_in (sym c.node.ensures ∙ w.in-Root.is)) w.put.ensures in
          rw w.roots-is (laws.upto_more inv l own refl)
      | in-Child+else-not-climb w ↦ rw w.roots-is (laws.upto_more inv l w.climb.ensures w.if-not-climb.false)
    ]

pub returns : goal.returns
returns c = laws.climbed_all c.requires.parents c.loop-i.invariant c.loop-i-test.false
