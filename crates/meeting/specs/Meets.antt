-- What two roots ask for, as scope's `meet` has it: a walk, which says an answer or a merge, or their children first.
use Rattle.std.specs.Prelude.{◌≡◌, Bool, true, false, ℕ, eqb}
use mathlib.Core.List.{List, [], Memᴰ}
use Rattle.std.proofs.Math.Option.{some}
use Rattle.scope.specs.Base.{pick, xor}
use Rattle.scope.specs.Names.{Texts}
use Rattle.scope.specs.Types.{Ty}
use Rattle.scope.specs.Nodes.{Node, Kind, kids_of}
use Rattle.scope.specs.Answers.{Success}
use Rattle.scope.specs.Unify.{Out, out, run, bound, bind, settle, same_node, state_in, kind_in, meet}
use Rattle.scope.specs.Unify as scope
use Rattle.types.specs.Answers.{answer_of}
use Rattle.types.specs.declared.UnifyResult.{UnifyResult}
use Rattle.layout.specs.Words.{decode}
use Rattle.layout.specs.Meaning.{read_at}
use Rattle.layout.specs.declared.TypeState.{TypeState}
use Rattle.layout.specs.declared.TypeState.TheVariants.{Known, Unknown, InferenceFailed}
use Rattle.layout.specs.declared.TypeNode.{TypeNode}
use Rattle.layout.specs.declared.TypeNode.TheVariants.{Root, Child}
use Rattle.layout.specs.declared.Nodes.{Nodes}
use Rattle.plan.specs.Meaning.{plan_means}
use Rattle.plan.specs.declared.Plan.{Plan}
use Rattle.meeting.specs.Asks.{Inside}
use Rattle.meeting.specs.Steps.{PlanSpans, PlanReady}
use Rattle.std.specs.Prelude.{Some, None}
use Rattle.std.specs.declared.option.Option as option

-- what two roots ask of their children; none where they are walked
abbrev pub Meeting : Type 0
Meeting = option.Option Plan

-- the answer after a walk; none where they merge
abbrev pub Walked : Type 0
Walked = option.Option UnifyResult

-- what a plan asks, each pair by u
abbrev pub does : (List Node → Ty → Ty → Out) → List Node → scope.Plan → Out
does u ns l = run u ns l.base l.pairs

-- one node, or two of which one has no kind
abbrev pub walks : ℕ → List Node → Ty → Ty → Out
walks n ns a b = pick (eqb a.idx b.idx) (out ns (same_node n ns a b)) (bind n ns a b)

abbrev pub walked_by : List Node → Ty → Ty → Walked → Out
walked_by ns a b (Some r) = out ns (answer_of r)
walked_by ns a b None = out (bound ns a b) Success

-- what a meeting of two roots asks, each pair of children by u
abbrev pub met_by : (List Node → Ty → Ty → Out) → Texts → ℕ → List ℕ → List Node → Ty → Ty → Meeting → Out
met_by u x n ks ns a b None = walks n ns a b
met_by u x n ks ns a b (Some p) = let o : Out = does u ns (plan_means ks x p) in settle o.nodes a b o.answer

abbrev pub pairs_of : Texts → List ℕ → Meeting → List (Ty × Ty)
pairs_of x ks None = []
pairs_of x ks (Some p) = (plan_means ks x p).pairs

abbrev pub MeetReady : Texts → List ℕ → Meeting → Type 0
MeetReady x ks None = Unit {0}
MeetReady x ks (Some p) = PlanSpans p × PlanReady x ks p

-- two nodes, both with a kind, and what their kinds ask
pub record BothKnown (x : Texts) (ns : List Node) (a b : Ty) (l : scope.Plan) : Type 0 where
  pub apart : a.idx ≡ b.idx → ⊥
  pub seen : Bool × Kind
  pub other : Bool × Kind
  pub first : kind_in ns a ≡ some seen
  pub second : kind_in ns b ≡ some other
  pub plan : l ≡ scope.plan x seen.1 other.1 (xor seen.0 other.0)

abbrev pub MetKinds : Texts → List ℕ → List Node → Ty → Ty → Meeting → Type 0
MetKinds x ks ns a b None = Unit {0}
MetKinds x ks ns a b (Some p) = BothKnown x ns a b (plan_means ks x p)

pub record Met (x : Texts) (ws ks : List ℕ) (n : ℕ) (a b : Ty) (m : Meeting) : Type 0 where
  pub same : (u : List Node → Ty → Ty → Out) → meet u x n (decode ws ks n) a b ≡ met_by u x n ks (decode ws ks n) a b m
  pub inside : Inside n (pairs_of x ks m)
  -- each pair's first type is a child of the first root's kind
  pub left : (p : Ty × Ty) → Memᴰ p (pairs_of x ks m) → Memᴰ p.0 (kids_of (state_in (decode ws ks n) a))
  pub ready : MeetReady x ks m
  pub kinds : MetKinds x ks (decode ws ks n) a b m

-- the same of the nodes that are lent
abbrev pub MetIn : Texts → Nodes → Ty → Ty → Meeting → Type 0
MetIn x s a b m = Met x s.words.now s.kids.now s.made a b m

-- one node
pub record OneNode (ws ks : List ℕ) (n : ℕ) (a b : Ty) (r : UnifyResult) : Type 0 where
  pub is : same_node n (decode ws ks n) a b ≡ answer_of r

-- the same of the nodes that are lent
abbrev pub OneNodeIn : Nodes → Ty → Ty → UnifyResult → Type 0
OneNodeIn s a b r = OneNode s.words.now s.kids.now s.made a b r

-- two roots, one without a kind
pub record Bare (ws ks : List ℕ) (n : ℕ) (a b : Ty) (m : Walked) : Type 0 where
  pub same : bind n (decode ws ks n) a b ≡ walked_by (decode ws ks n) a b m

-- the same of the nodes that are lent
abbrev pub BareIn : Nodes → Ty → Ty → Walked → Type 0
BareIn s a b m = Bare s.words.now s.kids.now s.made a b m

pub record WalkedTo (ws ks : List ℕ) (n : ℕ) (a b : Ty) (m : Walked) : Type 0 where
  pub same : walks n (decode ws ks n) a b ≡ walked_by (decode ws ks n) a b m

-- the same of the nodes that are lent
abbrev pub WalkedToIn : Nodes → Ty → Ty → Walked → Type 0
WalkedToIn s a b m = WalkedTo s.words.now s.kids.now s.made a b m

-- of two nodes: both are roots, and one has no kind

abbrev pub bare_states : TypeState → TypeState → Bool
bare_states (Known i k) (Known j m) = false
bare_states (Known i k) (Unknown s) = true
bare_states (Known i k) InferenceFailed = true
bare_states (Unknown s) t = true
bare_states InferenceFailed t = true

abbrev pub bare_nodes : Bool → TypeNode → TypeNode → Bool
bare_nodes true u v = false
bare_nodes false (Child t) v = false
bare_nodes false (Root s y) (Child t) = false
bare_nodes false (Root s y) (Root t z) = bare_states s t

abbrev pub bare_roots : List ℕ → ℕ → ℕ → ℕ → Bool
bare_roots ws n i j = bare_nodes (eqb i j) (read_at ws n i) (read_at ws n j)
