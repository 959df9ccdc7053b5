-- What a walk keeps beside its marks. Of slots that the table of skips passes over the roots of the children are marked. A table of nodes has a byte for each:
-- nonzero says that its root is marked. Marks only grow, so this stays true.
use Rattle.std.specs.Prelude.{◌≡◌, Bool, true, false, List, ℕ, set}
use Rattle.scope.specs.Types.{Ty, ty_of}
use Rattle.scope.specs.Nodes.{Node, at, state_of, find, kids_of}
use Rattle.scope.specs.Force.{related_kids, related_f}
use Rattle.types.specs.declared.TypeIdx.{TypeIdx}
use Rattle.layout.specs.Words.{slot_at, decode}
use Rattle.layout.specs.declared.Nodes.{Nodes}
use Rattle.skips.specs.Table.{marked, Skips}
use Rattle.std.specs.Prelude.{Some, None}
use Rattle.std.specs.declared.option.Option as option

-- a root that is marked now; none where it was before
abbrev pub Meeting : Type 0
Meeting = option.Option TypeIdx

-- as many nodes as a walk with small tables takes
abbrev pub FEW : ℕ
FEW = 256

-- the walk on from the root i
abbrev pub related_below : ℕ → List Node → List ℕ → ℕ → List ℕ
related_below depth ns ms i = related_kids (related_f depth ns) ms (kids_of (state_of (at ns i)))

-- whether the root of the child in slot x is marked
abbrev pub slot_marked : List Node → List ℕ → List ℕ → ℕ → Bool
slot_marked ns ks ms x = marked ms (find ns (ty_of (slot_at ks x).type)).idx

-- a node that has been told has a marked root, whatever the children's words are
pub record Sees (ws : List ℕ) (n : ℕ) (ms seen : List ℕ) : Type 0 where
  pub each : (t : Ty) → marked seen t.idx ≡ true → (ks : List ℕ) → marked ms (find (decode ws ks n) t).idx ≡ true

-- the same of the nodes that are lent
abbrev pub SeesIn : Nodes → List ℕ → List ℕ → Type 0
SeesIn s ms seen = Sees s.words.now s.made ms seen

-- a child's root was marked, and no mark changed; or it is marked now, where marks have room
pub record Meets (ws : List ℕ) (n t : ℕ) (ms ms' seen' : List ℕ) (r : Meeting) : Type 0 where
  pub sees : Sees ws n ms' seen'
  pub same : r ≡ None → ms' ≡ ms
  pub met : r ≡ None → (ks : List ℕ) → marked ms (find (decode ws ks n) (ty_of t)).idx ≡ true
  pub root : (i : TypeIdx) → r ≡ Some i → (ks : List ℕ) → i.0 ≡ (find (decode ws ks n) (ty_of t)).idx
  pub fresh : (i : TypeIdx) → r ≡ Some i → marked ms i.0 ≡ false
  pub mark : (i : TypeIdx) → r ≡ Some i → ms' ≡ set ms i.0 1

-- the same of the nodes that are lent
abbrev pub MeetsIn : Nodes → ℕ → List ℕ → List ℕ → List ℕ → Meeting → Type 0
MeetsIn s t ms ms' seen' r = Meets s.words.now s.made t ms ms' seen' r

-- nodes and slots of marked roots
pub record Keeps (ws ks : List ℕ) (n : ℕ) (ms seen skip : List ℕ) : Type 0 where
  pub sees : Sees ws n ms seen
  pub skips : Skips (slot_marked (decode ws ks n) ks ms) skip

-- the same of the nodes that are lent
abbrev pub KeepsIn : Nodes → List ℕ → List ℕ → List ℕ → Type 0
KeepsIn s ms seen skip = Keeps s.words.now s.kids.now s.made ms seen skip
