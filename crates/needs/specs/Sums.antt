-- The walk so far, in the code's marks and sums, and what it asks and gives from one type on. What it gives holds for each parameter list of which
-- it was told.
use Rattle.std.specs.Prelude.{◌≡◌, Bool, true, false, List, ℕ, ◌≤◌, length}
use Rattle.std.proofs.Math.Option.{Option}
use Rattle.scope.specs.Limits.{MAX_NODES, MAX_CHILDREN}
use Rattle.scope.specs.Types.{Ty, ty_of}
use Rattle.scope.specs.Needs.{Counted, count_all, count_f}
use Rattle.scope.specs.Needs as scope
use Rattle.scope.proofs.NeedsWalk.{Small}
use Rattle.types.specs.declared.«Type».{«Type»}
use Rattle.layout.specs.Words.{decode}
use Rattle.layout.specs.Meaning.{Clean}
use Rattle.layout.specs.declared.Nodes.{Nodes}
use Rattle.needs.specs.declared.Needs.{Needs}
use Rattle.needs.specs.Roots.{Params}
use Rattle.needs.specs.Roots.{params_for}

abbrev pub sum_of : Needs → scope.Needs
sum_of r = record { missing = r.missing; nodes = r.nodes; children = r.children }

abbrev pub no_needs : Needs
no_needs = record { missing = false; nodes = 0; children = 0 }

abbrev pub walk_at : List ℕ → Needs → Counted
walk_at ms r = record { marks = ms; sum = sum_of r }

-- the source's words are clean, with no more children than a store may have
pub record Readable (ws ks : List ℕ) (n : ℕ) : Type 0 where
  pub made : ℕ
  pub clean : Clean ws ks made n
  pub few : made ≤ MAX_CHILDREN

-- the sums are those of no more roots than are marked
pub record Countable (ws ks : List ℕ) (n : ℕ) (ms : List ℕ) (sum : Needs) : Type 0 where
  pub source : Readable ws ks n
  pub long : length ms ≤ MAX_NODES
  pub small : Small MAX_CHILDREN (walk_at ms sum)

-- the same of the nodes that are lent
abbrev pub CountableIn : Nodes → List ℕ → Needs → Type 0
CountableIn s ms sum = Countable s.words.now s.kids.now s.made ms sum

pub record CountedIs (ws ks : List ℕ) (n : ℕ) (p : Params) (ms : List ℕ) (sum : Needs) (t : «Type») (depth : ℕ) (ms' : List ℕ) (r : Needs) : Type 0 where
  pub is : (ps : Option (List Ty)) → p ≡ params_for ps → walk_at ms' r ≡ count_f depth (decode ws ks n) ps (walk_at ms sum) (ty_of t.0)

-- the same of the nodes that are lent
abbrev pub CountedIn : Nodes → Params → List ℕ → Needs → «Type» → ℕ → List ℕ → Needs → Type 0
CountedIn s p ms sum t depth ms' r = CountedIs s.words.now s.kids.now s.made p ms sum t depth ms' r

-- whether the root of t is counted; if so, the walk from t changes nothing
pub record Met (ws : List ℕ) (n : ℕ) (ms : List ℕ) (t : «Type») (b : Bool) : Type 0 where
  pub is : b ≡ true → (ks : List ℕ) (p : Params) (sum : Needs) (depth : ℕ) → CountedIs ws ks n p ms sum t depth ms sum

-- from each type of the list us
pub record AllCounted (ws ks : List ℕ) (n : ℕ) (p : Params) (ms : List ℕ) (sum : Needs) (us : List Ty) (ms' : List ℕ) (r : Needs) : Type 0 where
  pub is : (ps : Option (List Ty)) → p ≡ params_for ps → walk_at ms' r ≡ count_all (count_f n (decode ws ks n) ps) (walk_at ms sum) us

-- the same of the nodes that are lent
abbrev pub AllCountedIn : Nodes → Params → List ℕ → Needs → List Ty → List ℕ → Needs → Type 0
AllCountedIn s p ms sum us ms' r = AllCounted s.words.now s.kids.now s.made p ms sum us ms' r
