-- The copying so far in words, and what copying a type asks and gives. Children are reserved before their words are written: they are counted and belong
-- to no node, and a run that no node has stays so while other types are copied.
use Rattle.std.specs.Prelude.{◌≡◌, true, ◌⊎◌, List, ℕ, ◌+◌, ◌≤◌, ◌<◌}
use Rattle.std.proofs.Math.Option.{Option}
use Rattle.scope.specs.Types.{Ty, ty_of}
use Rattle.scope.proofs.CopyTable.{Copying, Copied, copy_f}
use Rattle.scope.proofs.CopyTableLaws.{Placed}
use Rattle.types.specs.declared.«Type».{«Type»}
use Rattle.layout.specs.Words.{nodes_made, children_made, node_room, child_room, first_at, count_at, decode, store_in}
use Rattle.layout.specs.Words as words
use Rattle.layout.specs.Lent.{nodes_by}
use Rattle.layout.specs.declared.Nodes.{Nodes}
use Rattle.layout.specs.Meaning.{Clean, Kept}
use Rattle.store.specs.Holds.{Beyond, Room}

abbrev pub copying_at : List ℕ → List ℕ → List ℕ → List ℕ → Copying
copying_at h ws ks table = record { dest = store_in h ws ks; table = table }

-- none of n nodes has a child from a up to e
pub record Apart (a e : ℕ) (ws : List ℕ) (n : ℕ) : Type 0 where
  pub each : (i : ℕ) → i < n → (first_at ws i + count_at ws i ≤ a) ⊎ (e ≤ first_at ws i)

-- the slices were h ws ks: they are clean again, with the same capacities; words past these, the first b children and runs among them that no node
-- had are as they were
pub record Spared (b : ℕ) (h ws ks h' ws' ks' : List ℕ) : Type 0 where
  pub clean : words.clean h' ws' ks' ≡ true
  pub node_rooms : node_room h' ≡ node_room h
  pub child_rooms : child_room h' ≡ child_room h
  pub children : children_made h ≤ children_made h'
  pub beyond : Beyond (node_room h) (child_room h) h ws ks h' ws' ks'
  pub kept : Kept b ks ks'
  pub apart : (a e : ℕ) → e ≤ b → Apart a e ws (nodes_made h) → Apart a e ws' (nodes_made h')

-- the source's n nodes lie in sw and sk; the store in h ws ks has room for all that the copy of t makes
pub record Copyable (sw sk : List ℕ) (n : ℕ) (ps : Option (List Ty)) (depth : ℕ) (h ws ks table : List ℕ) (t : «Type») : Type 0 where
  pub made : ℕ
  pub source : Clean sw sk made n
  pub clean : words.clean h ws ks ≡ true
  pub placed : Placed (copying_at h ws ks table)
  pub room : Room (copy_f depth (decode sw sk n) ps (copying_at h ws ks table) (ty_of t.0)).to.dest 0 0

-- the same of the nodes that are lent, and the copying out of them
abbrev pub CopyableFrom : Nodes → Option (List Ty) → ℕ → List ℕ → List ℕ → List ℕ → List ℕ → «Type» → Type 0
CopyableFrom s ps depth h ws ks table t = Copyable s.words.now s.kids.now s.made ps depth h ws ks table t

abbrev pub copy_from : Nodes → Option (List Ty) → ℕ → Copying → Ty → Copied
copy_from s ps depth = copy_f depth (nodes_by s) ps

-- the copying m from h ws ks table on gave the type r, and left h' ws' ks' table'
pub record CopiedIs (m : Copied) (h ws ks h' ws' ks' table' : List ℕ) (r : «Type») : Type 0 where
  pub type : ty_of r.0 ≡ m.type
  pub to : copying_at h' ws' ks' table' ≡ m.to
  pub spared : Spared (children_made h) h ws ks h' ws' ks'
