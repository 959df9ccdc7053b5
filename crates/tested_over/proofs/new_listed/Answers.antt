-- `tested_over::new_listed` meets its contract: the types are put behind the children made, where no node looks, and the kind that is pushed has them.
-- Assumes nothing.
use mathlib.Core.Path.{refl}
use native.Mathlib.Omega.{arith}
use Rattle.tested_over.proofs.Laws.{list_few, list_head, list_room, list_pushable, list_made}
use Rattle.tested_over.proofs.new_listed.Goals as goal

pub children_made-first-requires : goal.children_made-first-requires
children_made-first-requires c = list_head c.args.types.now c.requires

pub put_listed-requires : goal.put_listed-requires
put_listed-requires c =
    list_room c.args.types.now c.requires c.children_made-first.ensures

pub overflow_cast-count : goal.overflow_cast-count
overflow_cast-count c =
    omega (arith, list_few c.args.types.now c.requires)

pub push_kind-requires : goal.push_kind-requires
push_kind-requires c =
    list_pushable c.args.types.now c.requires

pub returns : goal.returns
returns c =
    list_made c.args.types.now c.requires c.children_made-first.ensures c.put_listed.ensures c.put_listed.auto.ks
    refl c.push_kind.ensures
