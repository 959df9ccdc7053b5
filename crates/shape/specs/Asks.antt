-- What each function asks and gives.
use Rattle.std.specs.Prelude.{◌≡◌, List, Bool, true, false, ℕ, ◌≤◌, ◌<◌, length, get_or}
use Rattle.scope.specs.Base.{all, count, from}
use Rattle.scope.specs.Limits.{MAX_NODES}
use Rattle.scope.specs.Nodes.{Node, Root, Child, at, kids_of}
use Rattle.scope.specs.Sound.{in_store}
use Rattle.layout.specs.Words.{decode}
use Rattle.layout.specs.Meaning.{Clean}
use Rattle.layout.specs.declared.Nodes.{Nodes}
use Rattle.shape.specs.Walks.{Graph, ends, InRun, Up, upward, to_by, Leads}
use Rattle.shape.specs.declared.Mark.{Mark}
use Rattle.shape.specs.declared.Mark.TheVariants as mark
use Rattle.shape.specs.Read.{ups, kids, kid_at, root_of, tallied}

-- a node's parent, or its kind's children, are nodes of the store
abbrev pub node_inside : List Node → Node → Bool
node_inside ns (Root st z) = all (in_store ns) (kids_of st)
node_inside ns (Child t) = in_store ns t

-- `shape_ok`: clean nodes with so many children made, and every parent and child inside
pub record Shaped (ws ks : List ℕ) (n : ℕ) : Type 0 where
  pub made : ℕ
  pub few : n ≤ MAX_NODES
  pub clean : Clean ws ks made n
  pub inside : (i : ℕ) → i < n → node_inside (decode ws ks n) (at (decode ws ks n) i) ≡ true

-- the same of the nodes that are lent
abbrev pub ShapedIn : Nodes → Type 0
ShapedIn s = Shaped s.words.now s.kids.now s.made

-- n nodes whose parents are nodes
pub record ParentsInside (ws : List ℕ) (n : ℕ) : Type 0 where
  pub few : n ≤ MAX_NODES
  pub inside : (v : ℕ) → v < n → to_by (ups ws n v) < n

-- a root that is known is right
pub record TrueRoots (p : ℕ → Up) (roots : List ℕ) : Type 0 where
  pub long : length roots ≡ MAX_NODES
  pub right : (v : ℕ) → 0 < get_or roots v 0 → Leads p v (root_of roots v)

-- `climb`
pub record Climbs (ws roots : List ℕ) (n v : ℕ) : Type 0 where
  pub parents : ParentsInside ws n
  pub right : TrueRoots (ups ws n) roots
  pub node : v < n

-- the same of the nodes that are lent
abbrev pub ClimbsIn : Nodes → List ℕ → ℕ → Type 0
ClimbsIn s roots v = Climbs s.words.now roots s.made v

-- roots that were known stay known. Where the answer is yes, v's is; where it is no, the walk up from v has more than depth nodes
pub record Climbed (p : ℕ → Up) (depth v : ℕ) (roots₀ roots : List ℕ) (r : Bool) : Type 0 where
  pub right : TrueRoots p roots
  pub stay : (u : ℕ) → 0 < get_or roots₀ u 0 → 0 < get_or roots u 0
  pub known : r ≡ true → 0 < get_or roots v 0
  pub lost : r ≡ false → ends (upward p) depth v ≡ false

-- every node below n has its root
pub record Complete (p : ℕ → Up) (n : ℕ) (roots : List ℕ) : Type 0 where
  pub leads : (v : ℕ) → v < n → Leads p v (root_of roots v)
  pub known : (v : ℕ) → v < n → 0 < get_or roots v 0

-- `find_roots`
pub record ClimbsAll (ws roots : List ℕ) (n : ℕ) : Type 0 where
  pub parents : ParentsInside ws n
  pub right : TrueRoots (ups ws n) roots

-- the same of the nodes that are lent
abbrev pub ClimbsAllIn : Nodes → List ℕ → Type 0
ClimbsAllIn s roots = ClimbsAll s.words.now roots s.made

pub record ClimbedAll (p : ℕ → Up) (n : ℕ) (roots : List ℕ) (r : Bool) : Type 0 where
  pub answer : r ≡ all (ends (upward p) n) (from 0 n)
  pub complete : r ≡ true → Complete p n roots

-- `tally` and `sizes_ok`: every node below n has a root below n
pub record Rooted (roots : List ℕ) (n : ℕ) : Type 0 where
  pub few : n ≤ MAX_NODES
  pub known : (v : ℕ) → v < n → 0 < get_or roots v 0
  pub below : (v : ℕ) → v < n → root_of roots v < n

-- no node is counted yet, and all are
pub record Tallies (roots counts : List ℕ) (n : ℕ) : Type 0 where
  pub rooted : Rooted roots n
  pub long : length counts ≡ MAX_NODES
  pub zeros : (v : ℕ) → v < n → get_or counts v 0 ≡ 0

pub record Tallied (roots : List ℕ) (n : ℕ) (counts : List ℕ) : Type 0 where
  pub each : (v : ℕ) → v < n → get_or counts v 0 ≡ tallied roots n v

-- a node that no visit came to, one that lies on the way, and one from which every walk ends
abbrev pub is_fresh : Mark → Bool
is_fresh mark.Fresh = true
is_fresh mark.Open = false
is_fresh mark.Done = false

abbrev pub Open : List Mark → ℕ → Type 0
Open marks v = get_or marks v mark.Fresh ≡ mark.Open

abbrev pub is_done : Mark → Bool
is_done mark.Fresh = false
is_done mark.Open = false
is_done mark.Done = true

-- from a node that is done every walk ends
pub record TrueMarks (g : Graph) (n : ℕ) (marks : List Mark) : Type 0 where
  pub long : length marks ≡ MAX_NODES
  pub done : (v : ℕ) → get_or marks v mark.Fresh ≡ mark.Done → ends g n v ≡ true

-- how many of the first n nodes no visit came to
abbrev pub fresh : ℕ → List Mark → ℕ
fresh n marks = count (λ v. is_fresh (get_or marks v mark.Fresh)) (from 0 n)

-- `visit` and `falls_ok`
pub record Falls (ws ks : List ℕ) (n : ℕ) (roots : List ℕ) : Type 0 where
  pub rooted : Rooted roots n
  pub below : (v i : ℕ) → v < n → InRun (kids ws ks n roots) v i → kid_at ks i < n

-- the same of the nodes that are lent
abbrev pub FallsIn : Nodes → List ℕ → Type 0
FallsIn s roots = Falls s.words.now s.kids.now s.made roots

pub record Visits (ws ks : List ℕ) (n : ℕ) (roots : List ℕ) (marks : List Mark) (v : ℕ) : Type 0 where
  pub falls : Falls ws ks n roots
  pub marked : TrueMarks (kids ws ks n roots) n marks
  pub node : v < n

-- the same of the nodes that are lent
abbrev pub VisitsIn : Nodes → List ℕ → List Mark → ℕ → Type 0
VisitsIn s roots marks v = Visits s.words.now s.kids.now s.made roots marks v

-- `kids_done`: the walks from the nodes before v end
pub record Tries (ws ks : List ℕ) (n : ℕ) (roots : List ℕ) (marks : List Mark) (v : ℕ) : Type 0 where
  pub visits : Visits ws ks n roots marks v
  pub ended : (u : ℕ) → u < v → ends (kids ws ks n roots) n u ≡ true

-- the same of the nodes that are lent
abbrev pub TriesIn : Nodes → List ℕ → List Mark → ℕ → Type 0
TriesIn s roots marks v = Tries s.words.now s.kids.now s.made roots marks v

-- Marks stay. Where the answer is yes, walks from v end and no node is left open that was not. Where it is no, some walk from v is longer than d nodes
-- for each d for which this is so of the nodes that were open
pub record Visited (g : Graph) (n v : ℕ) (marks₀ marks : List Mark) (r : Bool) : Type 0 where
  pub marked : TrueMarks g n marks
  pub stay : (u : ℕ) → is_fresh (get_or marks₀ u mark.Fresh) ≡ false → is_fresh (get_or marks u mark.Fresh) ≡ false
  pub shut : r ≡ true → (u : ℕ) → Open marks u → Open marks₀ u
  pub passed : r ≡ true → ends g n v ≡ true
  pub failed : r ≡ false → (d : ℕ) → ((u : ℕ) → Open marks₀ u → ends g d u ≡ false) → ends g d v ≡ false
