-- A cache of roots: a number for each node, 0 or the root that scope's `find` gives for the node, not inverted. Whatever the children's words are.
use Rattle.std.specs.Prelude.{◌≡◌, true, false, List, ℕ, ◌+◌, ◌-◌, ◌*◌, leb, ltb, get_or}
use Rattle.scope.specs.Base.{pick}
use Rattle.scope.specs.Types.{Ty, ty, ty_of}
use Rattle.scope.specs.Nodes.{at, is_root, find}
use Rattle.types.specs.declared.«Type».{«Type»}
use Rattle.layout.specs.Words.{decode}
use Rattle.layout.specs.declared.Nodes.{Nodes}
use Rattle.roots.specs.Found.{Nearby}
use Rattle.std.specs.Prelude.{Some}

abbrev pub KEPT_INV : ℕ
KEPT_INV = 32768

-- what a number stays below
abbrev pub KEPT_END : ℕ
KEPT_END = 2 * KEPT_INV

-- the root that a number says
abbrev pub kept_type : ℕ → Ty
kept_type k = pick (ltb KEPT_INV k) (ty true (k - 1 - KEPT_INV)) (ty false (k - 1))

-- the number that says a root, 0 where there is none
abbrev pub kept_word : Ty → ℕ
kept_word r = pick (leb KEPT_INV (r.idx + 1)) 0 (pick r.inv (r.idx + 1 + KEPT_INV) (r.idx + 1))

-- what the number k is read as
pub record Kept (k : ℕ) (q : Nearby) : Type 0 where
  pub there : (r : «Type») → q ≡ Some r → k ≡ 0 → ⊥
  pub type : (r : «Type») → q ≡ Some r → ty_of r.0 ≡ kept_type k

-- "`find` follows parents": from the node i to r, which is a root. A path of children alone, a circle, has none
pub record Rooted (ws : List ℕ) (n i : ℕ) (r : Ty) : Type 0 where
  pub found : (ks : List ℕ) → find (decode ws ks n) (ty false i) ≡ r
  pub top : (ks : List ℕ) → is_root (at (decode ws ks n) r.idx) ≡ true

-- the same of the nodes that are lent
abbrev pub RootedIn : Nodes → ℕ → Ty → Type 0
RootedIn s i r = Rooted s.words.now s.made i r

-- told a root of the node i
pub record Topped (ws : List ℕ) (n i : ℕ) (q : Nearby) : Type 0 where
  pub told : (r : «Type») → q ≡ Some r → Rooted ws n i (ty_of r.0)

abbrev pub ToppedIn : Nodes → ℕ → Nearby → Type 0
ToppedIn s i q = Topped s.words.now s.made i q

-- what is kept of a node is its root
pub record Cached (ws : List ℕ) (n : ℕ) (cache : List ℕ) : Type 0 where
  pub each : (i : ℕ) → (get_or cache i 0 ≡ 0 → ⊥) → Rooted ws n i (kept_type (get_or cache i 0))

-- the same of the nodes that are lent
abbrev pub CachedIn : Nodes → List ℕ → Type 0
CachedIn s cache = Cached s.words.now s.made cache
