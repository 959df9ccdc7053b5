-- What unifying asks beside a memory, and what it leaves there.
use Rattle.std.specs.Prelude.{List, ℕ}
use Rattle.scope.specs.Names.{Texts}
use Rattle.scope.specs.Types.{Ty}
use Rattle.scope.specs.Nodes.{Node}
use Rattle.scope.specs.Unify.{Out}
use Rattle.scope.proofs.Enough.{Enough}
use Rattle.types.specs.declared.UnifyResult.{UnifyResult}
use Rattle.names.specs.Place.{texts_by}
use Rattle.layout.specs.Words.{decode}
use Rattle.recall.specs.Memory.{clock_of}
use Rattle.heed.specs.Recalls.{Recalls, Since}
use Rattle.meeting.specs.Asks.{Pairs}
use Rattle.unify_enter.specs.Leaves.{Leaves}
use Rattle.unify_enter.specs.declared.Fixed.{Fixed}

-- pairs inside n sound nodes, a depth that is enough for them, and a memory m that holds only what is so
pub record Asked (x : Texts) (ws ks m : List ℕ) (n d : ℕ) (ps : List (Ty × Ty)) : Type 0 where
  pub pairs : Pairs x ws ks n ps
  pub enough : Enough n (decode ws ks n) d ps
  pub recalls : Recalls x n (decode ws ks n) m

-- o's nodes and answer, and a memory that again holds only what is so; where its running clock is as it was, so are the nodes
pub record Unified (x : Texts) (ws ks m ws' m' : List ℕ) (n : ℕ) (o : Out) (r : UnifyResult) : Type 0 where
  pub leaves : Leaves ws ks ws' n o r
  pub recalls : Recalls x n (decode ws' ks n) m'
  pub since : Since (clock_of m) (clock_of m') (decode ws ks n) (decode ws' ks n)

-- the nodes in the words ws, and the same two beside what stays as it is
abbrev pub nodes_in : Fixed → List ℕ → List Node
nodes_in f ws = decode ws f.kids.now f.made

abbrev pub AskedIn : Fixed → (ws m : List ℕ) → ℕ → List (Ty × Ty) → Type 0
AskedIn f ws m d ps = Asked (texts_by f.texts) ws f.kids.now m f.made d ps

abbrev pub UnifiedIn : Fixed → (ws m ws' m' : List ℕ) → Out → UnifyResult → Type 0
UnifiedIn f ws m ws' m' o r = Unified (texts_by f.texts) ws f.kids.now m ws' m' f.made o r
