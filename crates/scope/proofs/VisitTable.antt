-- Visits counted by computing: two types of six levels, each a pair of the one below twice, that differ at the bottom. Where nothing is remembered each level is visited
-- twice as often as the one above it; where it is, each level is worked through once and told once. Assumes nothing.
use mathlib.Core.Path.{◌≡◌, refl}
use mathlib.Core.List.{List, [], ◌∷◌, ◌++◌}
use mathlib.Core.Bool.{false}
use Prim.Native.Nat.{ℕ, suc}
use Rattle.scope.specs.Names as Names
use Rattle.scope.specs.Kinds as Kinds
use Rattle.scope.specs.Kinds.{NEVER, DEFAULT, TUPLE}
use Rattle.scope.specs.Types.{ty}
use Rattle.scope.specs.Nodes as Nodes
use Rattle.scope.specs.Nodes.{Known, Node, Root}
use Rattle.scope.specs.Unify as Unify
use Rattle.scope.specs.Make.{bare}
use Rattle.scope.specs.Recall as Recall
use Rattle.scope.specs.Recall.{recall}

-- the pair of a type twice
abbrev twice : ℕ → Node
twice i = Root (Known false (record { head = (bare TUPLE).head; kids = ty false i ∷ ty false i ∷ [] })) 1

abbrev level : ℕ → List Node
level i = twice i ∷ twice (suc i) ∷ []

abbrev shared : List Node
shared =
    Root (Known false (bare NEVER)) 1 ∷ Root (Known false (bare DEFAULT)) 1 ∷ (level 0 ++ (level 2 ++ (level 4 ++ (level 6 ++ (level 8 ++ level 10)))))

-- the visits where the first w are only counted: with 7 the first way down is made before the clock starts, and its pairs are worked through once more
pub visits : ℕ → ℕ
visits w = (recall w (record { rule = []; chart = [] }) shared (ty false 12) (ty false 13)).memory.visits

pub visits_table : (visits 1000 ≡ 127) × (visits 0 ≡ 13) × (visits 7 ≡ 23)
unfolding visits Names.eq_bytes Kinds.rows Kinds.row_of Kinds.self_dual Nodes.climb Nodes.find Nodes.compress Nodes.find_mut Unify.zipped Unify.run_plan Unify.kids_plan Unify.same_head
    Unify.crosses Unify.plan Unify.settle Recall.visited Recall.recall_run Recall.recall_meet Recall.recall_f Recall.recall
visits_table = (refl, refl, refl)
