-- What a memory beside nodes holds: each pair that is believed meets with the answer that is believed and changes nothing. It counts only until a node changes: where
-- the clock is as it was and runs, so are the nodes. A marked node's root is its own inverse, and stays so whatever changes.
use Rattle.std.specs.Prelude.{◌≡◌, List, ℕ, ◌≤◌}
use Rattle.scope.specs.Names.{Texts}
use Rattle.scope.specs.Types.{ty_of}
use Rattle.scope.specs.Nodes.{Node}
use Rattle.scope.specs.Unify.{out, meet, unify_f}
use Rattle.scope.proofs.View.{view}
use Rattle.scope.proofs.Grow.{Self}
use Rattle.types.specs.Answers.{answer_of}
use Rattle.types.specs.declared.UnifyResult.{UnifyResult}
use Rattle.marks.specs.Marks.{Knows}
use Rattle.recall.specs.Memory.{Running, Believed, Tidy}

-- the roots in the words a and b, at a depth that is enough wherever they are met
pub record Meets (x : Texts) (n : ℕ) (ns : List Node) (a b : ℕ) (q : UnifyResult) : Type 0 where
  pub same : meet (unify_f x n n) x n ns (ty_of a) (ty_of b) ≡ out ns (answer_of q)

-- the root of the node i is its own inverse, by its kinds
abbrev pub SelfAt : List Node → ℕ → Type 0
SelfAt ns i = Self (view ns) ((view ns).rep i).idx

-- each marked node's root is
pub record Marks (ns : List Node) (m : List ℕ) : Type 0 where
  pub self : (i : ℕ) → Knows m i → SelfAt ns i

pub record Recalls (x : Texts) (n : ℕ) (ns : List Node) (m : List ℕ) : Type 0 where
  pub tidy : Tidy m
  pub true : (a b : ℕ) (q : UnifyResult) → Believed m a b q → Meets x n ns a b q
  pub marks : Marks ns m

-- ns' after ns, from one clock to another
pub record Since (c c' : ℕ) (ns ns' : List Node) : Type 0 where
  pub on : c ≤ c'
  pub still : Running c' → c' ≡ c → ns' ≡ ns
