-- The laws of one step of the walk, and the root that the code finds.
-- Assumes nothing.
use mathlib.Core.Path.{◌≡◌, refl, sym, ◌∙◌}
use mathlib.Core.Bool.{Bool, true, not}
use mathlib.Core.List.{List}
use Prim.Native.Nat.{ℕ, zero, suc, ◌-◌}
use native.Mathlib.Omega.{arith}
use lib.Dec.{eqb}
use lib.ListN.{get_or, set}
use borrow.Author.Tests.{eqb-false, not-true}
use Rattle.scope.specs.Types.{Ty}
use Rattle.scope.specs.Nodes.{Node, at, state_of, find, kids_of}
use Rattle.scope.specs.Force.{related_kids, related_f, find_related}
use Rattle.scope.proofs.Marks.{related_new, related_old}
use Rattle.layout.specs.Words.{decode}
use Rattle.layout.proofs.Laws.{length_decode}

-- the walk: a depth of none, a root that is marked, a root that is not

pub mark_shallow : (depth : ℕ) (ns : List Node) (ms : List ℕ) (t : Ty) → depth ≡ 0 → ms ≡ related_f depth ns ms t
unfolding related_f
mark_shallow depth ns ms t e = rw e refl

pub mark_met : (depth : ℕ) (ns : List Node) (ms : List ℕ) (t : Ty) {i : ℕ} {b : Bool} → i ≡ (find ns t).idx
    → b ≡ not (eqb (get_or ms i 0) 0) → b ≡ true → ms ≡ related_f depth ns ms t
mark_met depth ns ms t {i} {b} r m e =
    sym (related_old depth ns ms t (λ z. eqb-false (get_or ms i 0) 0 (not-true (eqb (get_or ms i 0) 0) (sym m ∙ e)) (rw r z)))

pub mark_new : (depth : ℕ) (ns : List Node) (ms : List ℕ) (t : Ty) {i : ℕ} → (depth ≡ 0 → ⊥) → i ≡ (find ns t).idx → get_or ms i 0 ≡ 0
    → related_f depth ns ms t ≡ related_kids (related_f (depth - 1) ns) (set ms i 1) (kids_of (state_of (at ns i)))
mark_new zero ns ms t h r e = absurd (h refl)
mark_new (suc f) ns ms t h r e = let k : suc f - 1 ≡ f = omega arith in rw (k, r) (related_new f ns ms t (rw r at e))

-- a depth of n is what `find_related` walks
pub mark_whole : (ws ks : List ℕ) (n : ℕ) (ms : List ℕ) (t : Ty) → related_f n (decode ws ks n) ms t ≡ find_related (decode ws ks n) t ms
unfolding find_related
mark_whole ws ks n ms t = rw (length_decode ws ks n) refl
