-- `make::new_kind` meets its contract. The entries are put behind the children made, where no node looks, and the kind that is pushed has them; so it
-- means the kind that was given.
-- Assumes nothing.
use mathlib.Core.Path.{refl}
use native.Mathlib.Omega.{arith}
use Rattle.make.proofs.MakeLaws.{pushable_in}
use Rattle.make.proofs.NewLaws.{kind_head, entries_ready, children_room, kind_made_lem}
use Rattle.make.proofs.new_kind.Goals as goal

pub children_made-first-requires : goal.children_made-first-requires
children_made-first-requires c = kind_head c.requires

pub put_children-requires : goal.put_children-requires
put_children-requires c =
    (children_room (entries_ready c.requires c.entry_count-n.ensures) c.children_made-first.ensures, omega (arith, c.entry_count-n.ensures))

pub push_kind-requires : goal.push_kind-requires
push_kind-requires c =
    pushable_in (entries_ready c.requires c.entry_count-n.ensures)

pub returns : goal.returns
returns c =
    kind_made_lem c.requires c.children_made-first.ensures c.entry_count-n.ensures c.put_children.ensures
    c.put_children.auto.ks refl c.push_kind.ensures
