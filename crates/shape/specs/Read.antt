-- What the code reads of a store: the two walks over a store's words.
use Rattle.std.specs.Prelude.{List, Bool, true, ℕ, ◌-◌, eqb, get_or}
use Rattle.scope.specs.Base.{count, from}
use Rattle.scope.specs.Types.{ty_of}
use Rattle.layout.specs.Words.{slot_at}
use Rattle.layout.specs.Meaning.{read_at, held_in}
use Rattle.layout.specs.Meaning.{Held}
use Rattle.std.specs.Prelude.{Some, None}
use Rattle.layout.specs.declared.TypeNode.{TypeNode}
use Rattle.layout.specs.declared.TypeNode.TheVariants.{Root, Child}
use Rattle.layout.specs.declared.Nodes.{Nodes}
use Rattle.shape.specs.Walks.{Graph, Up}
use Rattle.shape.specs.Walks as up

-- one step up
abbrev pub up_in : TypeNode → Up
up_in (Root st z) = up.Root z
up_in (Child t) = up.Parent (ty_of t.0).idx

-- where the children of what a node holds begin, and how many there are
abbrev pub first_of : Held → ℕ
first_of (Some (i, k)) = k.first
first_of None = 0

abbrev pub count_of : Held → ℕ
count_of (Some (i, k)) = k.count
count_of None = 0

-- the node of the child at a place
abbrev pub kid_at : List ℕ → ℕ → ℕ
kid_at ks i = (ty_of (slot_at ks i).type).idx

-- from each node to its parent
abbrev pub ups : List ℕ → ℕ → ℕ → Up
ups ws n v = up_in (read_at ws n v)

-- the same of the nodes that are lent
abbrev pub ups_by : Nodes → ℕ → Up
ups_by s = ups s.words.now s.made

-- roots holds one more than the root of each node whose root is known, and 0 elsewhere
abbrev pub root_of : List ℕ → ℕ → ℕ
root_of roots v = get_or roots v 0 - 1

-- from each node to the roots of its kind's children
abbrev pub kids : List ℕ → List ℕ → ℕ → List ℕ → Graph
kids ws ks n roots = record {
  first = λ v. first_of (held_in (read_at ws n v));
  deg = λ v. count_of (held_in (read_at ws n v));
  to = λ i. root_of roots (kid_at ks i);
}

-- the same of the nodes that are lent
abbrev pub kids_by : Nodes → List ℕ → Graph
kids_by s roots = kids s.words.now s.kids.now s.made roots

-- how many of the first m nodes have the root r
abbrev pub tallied : List ℕ → ℕ → ℕ → ℕ
tallied roots m r = count (λ i. eqb (root_of roots i) r) (from 0 m)

-- a root's size is how many nodes have it as their root
abbrev pub size_by : ℕ → Up → Bool
size_by m (up.Root z) = eqb z m
size_by m (up.Parent u) = true

abbrev pub size_fits : List ℕ → ℕ → List ℕ → ℕ → Bool
size_fits ws n roots v = size_by (tallied roots n v) (ups ws n v)
