-- What the code's plan means, with the children's words ks: scope's plan.
use Rattle.std.specs.Prelude.{◌≡◌, List, map, Bool, not, ◌&&◌, ℕ, eqb}
use Rattle.std.proofs.Math.Option.{Option}
use Rattle.scope.specs.Names.{Texts, Name}
use Rattle.scope.specs.Types.{Ty, ty_of}
use Rattle.scope.specs.Kinds.{dual_by, row_of, OBJECT, DEFAULT}
use Rattle.scope.specs.Unify.{answers, run_plan, object_plan, signature_plan, same_head}
use Rattle.scope.specs.Unify as scope
use Rattle.scope.specs.Sound.{slot_name}
use Rattle.types.specs.Answers.{answer_of}
use Rattle.layout.specs.Words.{slots}
use Rattle.layout.specs.Meaning.{kind_means}
use Rattle.layout.specs.declared.Kind.{Kind}
use Rattle.plan.specs.declared.Runs.{Runs}
use Rattle.plan.specs.declared.Plan.{Plan}
use Rattle.plan.specs.declared.Plan.TheVariants.{Answer, Run, Object, Signature}

-- n children from i on: their types, and their names
abbrev pub kids_from : List ℕ → ℕ → ℕ → List Ty
kids_from ks i n = map (λ s. ty_of s.type) (slots ks i n)

abbrev pub names_from : List ℕ → ℕ → ℕ → List (Option Name)
names_from ks i n = map slot_name (slots ks i n)

unfoldable pub plan_means : List ℕ → Texts → Plan → scope.Plan
plan_means ks x (Answer r) = answers (answer_of r)
plan_means ks x (Run r) = run_plan r.inv.0 (kids_from ks r.a r.na) (kids_from ks r.b r.nb)
plan_means ks x (Object r) =
    object_plan x r.inv.0 (names_from ks r.a r.na) (kids_from ks r.a r.na) (names_from ks r.b r.nb) (kids_from ks r.b r.nb)
plan_means ks x (Signature r) = signature_plan r.inv.0 (kids_from ks r.a r.na) (kids_from ks r.b r.nb)

-- whatever the children are, r says whether two kinds are equal, children apart
pub record SameKinds (x : Texts) (k m : Kind) (r : Bool) : Type 0 where
  pub is : (ks : List ℕ) → r ≡ same_head x (kind_means ks k).head (kind_means ks m).head

abbrev pub crosses_kind : Kind → Bool
crosses_kind k = dual_by (row_of k.code).dual k.dual && not (eqb k.code DEFAULT)

-- runs of the children of two kinds
pub record Over (k m : Kind) (s : Runs) : Type 0 where
  pub a : s.a ≡ k.first
  pub na : s.na ≡ k.count
  pub b : s.b ≡ m.first
  pub nb : s.nb ≡ m.count

-- what a plan names of two kinds is all their children; an object's are those of two objects
abbrev pub PlanOver : Kind → Kind → Plan → Type 0
PlanOver k m (Answer r) = Unit {0}
PlanOver k m (Run s) = Over k m s
PlanOver k m (Object s) = Over k m s × (m.code ≡ OBJECT)
PlanOver k m (Signature s) = Over k m s

-- whatever the children are, r is the plan of two kinds whose inversions differ if i
pub record Planned (x : Texts) (k m : Kind) (i : Bool) (r : Plan) : Type 0 where
  pub means : (ks : List ℕ) → plan_means ks x r ≡ scope.plan x (kind_means ks k) (kind_means ks m) i
  pub over : PlanOver k m r
