-- Two roots of which no child is unified: what that asks beside a memory, and what it leaves there.
use Rattle.std.specs.Prelude.{◌≡◌, List, ℕ}
use Rattle.scope.specs.Names.{Texts}
use Rattle.scope.specs.Types.{Ty}
use Rattle.scope.specs.Nodes.{Node}
use Rattle.scope.specs.Unify.{Out, meet}
use Rattle.types.specs.declared.UnifyResult.{UnifyResult}
use Rattle.layout.specs.Words.{decode}
use Rattle.recall.specs.Memory.{clock_of}
use Rattle.heed.specs.Recalls.{Recalls, Since}
use Rattle.merge.specs.Meaning.{Adds}
use Rattle.meeting.specs.Asks.{Roots}
use Rattle.meeting.specs.Meets.{walks}
use Rattle.unify_enter.specs.Leaves.{Leaves}

-- no child is unified, however one level down is
abbrev pub Childless : Texts → ℕ → List Node → Ty → Ty → Type 0
Childless x n ns a b = (u : List Node → Ty → Ty → Out) → meet u x n ns a b ≡ walks n ns a b

pub record WalkAsks (ws ks m : List ℕ) (n : ℕ) (a b : Ty) : Type 0 where
  pub roots : Roots ws ks n a b
  pub adds : Adds ws n a b
  pub meets : Childless roots.lent n (decode ws ks n) a b
  pub recalls : Recalls roots.lent n (decode ws ks n) m

pub record WalkTold (ws ks m ws' m' : List ℕ) (n : ℕ) (a b : Ty) (r : UnifyResult) : Type 0 where
  pub leaves : Leaves ws ks ws' n (walks n (decode ws ks n) a b) r
  pub since : Since (clock_of m) (clock_of m') (decode ws ks n) (decode ws' ks n)
  -- whatever the texts are, the memory again holds only what is so
  pub recalls : (x : Texts) → Childless x n (decode ws ks n) a b → Recalls x n (decode ws ks n) m → Recalls x n (decode ws' ks n) m'
