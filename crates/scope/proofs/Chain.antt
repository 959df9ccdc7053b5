-- A chain of containing roots has no repetition, so that a depth equal to the node count is enough. Assumes nothing.
use mathlib.Core.Path.{◌≡◌, sym, subst}
use mathlib.Core.List.{List, [], ◌∷◌}
use mathlib.Core.Bool.{false}
use Prim.Native.Nat.{ℕ, suc, ◌≤◌, ◌<◌}
use native.Mathlib.Omega.{arith}
use Rattle.scope.proofs.View.{View, Kid, Below, one, Good}
use Rattle.scope.proofs.ViewLaws.{below_join, irrefl}
use Rattle.scope.proofs.Free.{memb, memb_none, memb_more, free, free_lt}

-- roots, each of which contains y
pub data Chain (g : View) (y : ℕ) : List ℕ → Type 0 where
  cnil : Chain g y []
  ccons : {l : ℕ} {ls : List ℕ} → Below g l y → Chain g y ls → Chain g y (l ∷ ls)

pub chain_new : {g : View} {y : ℕ} {ls : List ℕ} → Good g → Chain g y ls → memb y ls ≡ false
chain_new {y = y} good cnil = memb_none y
chain_new {g} {y} good (ccons {l = l} {ls = ls} b c) =
    memb_more y l ls (λ e. irrefl (good.wf y) (subst (λ (x : ℕ). Below g x y) (sym e) b)) (chain_new good c)

chain_down : {g : View} {y z : ℕ} {ls : List ℕ} → Kid g y z → Chain g y ls → Chain g z ls
chain_down k cnil = cnil
chain_down k (ccons b c) = ccons (below_join b (one k)) (chain_down k c)

pub chain_step : {g : View} {y z : ℕ} {ls : List ℕ} → Kid g y z → Chain g y ls → Chain g z (y ∷ ls)
chain_step k c = ccons (one k) (chain_down k c)

-- the depth left is at least the numbers left: with none left there is no further root
pub fuel_out : {g : View} {y n : ℕ} {ls : List ℕ} → Good g → Chain g y ls → y < n → free n ls ≤ 0 → ⊥
fuel_out {y = y} {n = n} {ls = ls} good c h f = omega (arith, free_lt y n ls h (chain_new good c))

pub fuel_step : {g : View} {y n f : ℕ} {ls : List ℕ} → Good g → Chain g y ls → y < n → free n ls ≤ suc f → free n (y ∷ ls) ≤ f
fuel_step {y = y} {n = n} {ls = ls} good c h q = omega (arith, free_lt y n ls h (chain_new good c))
