-- A chain of roots above each pair that a plan has, which stays while other pairs are unified. Assumes nothing.
use mathlib.Core.Path.{◌≡◌, refl}
use mathlib.Core.List.{List, ◌∷◌}
use mathlib.Core.Bool.{Bool, false}
use mathlib.Core.Logic.{inl}
use Prim.Native.Nat.{ℕ}
use Rattle.scope.specs.Names.{Texts}
use Rattle.scope.specs.Types.{Ty, ty}
use Rattle.scope.specs.Nodes.{Kind}
use Rattle.scope.specs.Unify.{plan}
use Rattle.scope.proofs.View.{known, View, Out}
use Rattle.scope.proofs.Chain.{Chain, cnil, ccons, chain_step}
use Rattle.scope.proofs.PlanLaws.{plan_left}
use Rattle.scope.proofs.Grow.{ri}
use Rattle.scope.proofs.Stay.{AllPairs, Spec, below_stays}

-- a chain above each pair's first type
abbrev pub Chains : View → List ℕ → List (Ty × Ty) → Type 0
Chains g ls = AllPairs (λ p. Chain g (ri g p.0) ls)

-- the chain above one child stays while another is unified
pub chain_after : {X : Texts} {g : View} {p q : Ty} {o : Out} {ls : List ℕ} → Spec X g p q o → (x : Ty) → Chain g (ri g p) ls → Chain g (ri g x) ls
    → Chain o.view (ri o.view x) ls
chain_after s x cnil cnil = cnil
chain_after s x (ccons {l = l} b c) (ccons b' c') = ccons (below_stays x s.grow (s.stays l (inl b)) b') (chain_after s x c c')

-- a root's chain, longer by the root, is one above each of its children
pub plan_chains : (X : Texts) (g : View) (a : ℕ) (ls : List ℕ) → g.rep a ≡ ty false a → Chain g a ls → (i : Bool) (k m : Kind) (c : Bool)
    → g.st a ≡ known i k → Chains g (a ∷ ls) (plan X k m c).pairs
plan_chains X g a ls top ch i k m c s p w =
    chain_step (record { inv = i; kind = k; kid = p.0; top = top; state = s; mem = plan_left X k m c p w; to = refl }) ch
