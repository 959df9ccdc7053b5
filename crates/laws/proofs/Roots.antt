-- Laws of climbing to a root that no proof of a function needs: climbing looks at parents alone, and these do not depend on the children's words. Assumes nothing.
use mathlib.Core.Path.{◌≡◌, refl, ap, ◌∙◌}
use mathlib.Core.List.{List}
use Prim.Native.Nat.{ℕ, zero, suc}
use native.Mathlib.Omega.{arith}
use Rattle.scope.specs.Types.{Ty, flip}
use Rattle.scope.specs.Nodes.{Node, Root, Child, at, climb, find}
use Rattle.scope.proofs.Laws as scope
use Rattle.layout.specs.Words.{decode}
use Rattle.layout.specs.Meaning.{parent_of}
use Rattle.layout.proofs.Laws.{length_decode}
use Rattle.laws.proofs.Nodes.{parent_same}

climb_same : (f : ℕ) (ns ms : List Node) (t : Ty) (v w : Node) → at ns t.idx ≡ v → at ms t.idx ≡ w → parent_of v ≡ parent_of w
    → ((u : Ty) → climb f ns u ≡ climb f ms u) → climb (suc f) ns t ≡ climb (suc f) ms t
climb_same f ns ms t (Root st z) (Root st' z') p q e g = rw (scope.climb_root (suc f) ns t p, scope.climb_root (suc f) ms t q)
climb_same f ns ms t (Root st z) (Child u) p q e g = let y : ◌≡◌ {A = ℕ} 0 1 = cc in absurd (omega arith)
climb_same f ns ms t (Child u) (Root st z) p q e g = let y : ◌≡◌ {A = ℕ} 0 1 = cc in absurd (omega arith)
climb_same f ns ms t (Child u) (Child u') p q e g =
    let y : u ≡ u' = cc in
    rw (scope.climb_child f ns t u p, scope.climb_child f ms t u' q) (g (flip t.inv u) ∙ ap (λ (x : Ty). climb f ms (flip t.inv x)) y)

pub climb_parents : (f : ℕ) (ns ms : List Node) (t : Ty) → ((i : ℕ) → parent_of (at ns i) ≡ parent_of (at ms i)) → climb f ns t ≡ climb f ms t
unfolding climb
climb_parents zero ns ms t e = refl
climb_parents (suc f) ns ms t e =
    climb_same f ns ms t (at ns t.idx) (at ms t.idx) refl refl (e t.idx) (λ u. climb_parents f ns ms u e)

pub find_kids : (ws ks ks' : List ℕ) (n : ℕ) (t : Ty) → find (decode ws ks n) t ≡ find (decode ws ks' n) t
unfolding find
find_kids ws ks ks' n t =
    rw (length_decode ws ks n, length_decode ws ks' n) (climb_parents n (decode ws ks n) (decode ws ks' n) t (parent_same ws ks ks' n))
