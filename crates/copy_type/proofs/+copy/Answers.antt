-- `copy_type::copy` meets its contract. The measure is the depth. A root that has no copy is begun before its children are copied; the loop's invariant is
-- `Filling`: what is left of them gives what all of them give, and those done stand in the run reserved for them.
-- Assumes nothing.
use mathlib.Core.Path.{ap, ◌∙◌}
use native.Mathlib.Omega.{arith}
use Rattle.layout.specs.declared.Header.{Header}
use Rattle.layout.proofs.StoreLaws.{clean_nodes}
use Rattle.roots.proofs.StaysLaws.{stays_same, stays_then}
use Rattle.needs.proofs.CountLaws.{kid_next}
use Rattle.copy_type.proofs.FillLaws.{kid_copyable, kid_room, filling_next}
use Rattle.copy_type.proofs.NodeLaws.{copied_shallow, place_few, copied_is, node_ready, filling_start, copied_node}
use Rattle.copy_type.proofs.+copy.Goals as goal

pub returns-then-depth-eq0 : goal.returns-then-depth-eq0
returns-then-depth-eq0 t c =
    (copied_shallow c.requires c.if-depth-eq0.true, stays_same _)

pub root_place-requires : goal.root_place-requires
root_place-requires t c =
    place_few c.requires _

pub begin-new-requires : goal.begin-new-requires
begin-new-requires t c =
    node_ready _ _ _ _ _ _ _ _ _ _ _ c.requires c.if-depth-eq0.false c.find-root.ensures.0 c.root_place.ensures
    c.in-Node.is

pub loop-j-init : goal.loop-j-init
loop-j-init t c = (
  filling_start _ _ _ _ _ _ _ _ _ _ _ c.requires c.if-depth-eq0.false c.find-root.ensures.0 c.root_place.ensures
      c.in-Node.is c.idx-at.ensures (ap (λ (yy : Header). yy.children) c.read_header-from.ensures) c.begin-new.ensures,
  c.find-root.ensures.1,
)

pub copy-next-requires : goal.copy-next-requires
copy-next-requires t c = (
  omega (arith, c.if-depth-eq0.false),
  rw c.loop-j.invariant.1.nodes (
      kid_copyable c.loop-j.invariant.0 c.loop-j-test.true _
      (kid_next c.args.finder.now.nodes.now.kids.now _ _ _ c.child.result c.loop-j-test.true c.child.ensures) c.requires.source
      ),
)

pub move_child-requires : goal.move_child-requires
move_child-requires t c =
    kid_room c.loop-j.invariant.0 c.loop-j-test.true _
    (kid_next c.args.finder.now.nodes.now.kids.now _ _ _ c.child.result c.loop-j-test.true c.child.ensures) (rw c.loop-j.invariant.1.nodes at c.copy-next.ensures.0)

pub loop-j-preserved : goal.loop-j-preserved
loop-j-preserved t c = (
  filling_next c.loop-j.invariant.0 c.loop-j-test.true _ (kid_next c.args.finder.now.nodes.now.kids.now _ _ _ c.child.result c.loop-j-test.true c.child.ensures)
      (rw c.loop-j.invariant.1.nodes at c.copy-next.ensures.0) c.move_child.ensures
      (record {
        tables = c.copy-next.auto.table;
        heads = c.copy-next.auto.h;
        nodes = c.copy-next.auto.ws;
        kids = c.move_child.auto.ks ∙ c.copy-next.auto.ks;
      }),
  stays_then c.loop-j.invariant.1 c.copy-next.ensures.1,
)

pub end-requires : goal.end-requires
end-requires t c =
    (clean_nodes _ _ _ c.loop-j.invariant.0.spared.clean).room

pub returns-in-Is : goal.returns-in-Is
returns-in-Is t c = (
  copied_is _ _ _ _ _ _ _ _ _ _ _ c.requires c.if-depth-eq0.false c.find-root.ensures.0
      c.root_place.ensures c.in-Is.is,
  c.find-root.ensures.1,
)

pub returns-after-loop-j : goal.returns-after-loop-j
returns-after-loop-j t c = (
  copied_node _ _ _ _ _ _ _ _ _ _ _ c.requires c.if-depth-eq0.false c.find-root.ensures.0 c.root_place.ensures
      c.in-Node.is c.idx-at.ensures (ap (λ (yy : Header). yy.children) c.read_header-from.ensures) c.begin-new.ensures
      c.loop-j.invariant.0 c.loop-j-test.false c.inv.result c.idx.ensures c.end.ensures
      c.inv.ensures c.invert_if.ensures,
  c.loop-j.invariant.1,
)
