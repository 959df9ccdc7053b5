-- The equations that a reader expects of `find` and of answers, so that nothing later looks at a depth. A node that reaches a root within some
-- steps is found the same with any more of them. Assumes nothing.
use mathlib.Core.Path.{◌≡◌, refl, sym, ap, ◌∙◌}
use mathlib.Core.List.{List}
use mathlib.Core.Bool.{true, false}
use Prim.Native.Nat.{ℕ, zero, suc}
use native.Mathlib.Omega.{arith}
use lib.ListN.{length, set}
use Rattle.scope.specs.Types.{Ty, flip}
use Rattle.scope.specs.Nodes.{State, Node, Root, Child, at, is_root, climb, find, compress}
use Rattle.scope.specs.Answers.{Answer, Success, Failure, Indeterminate, both}
use Rattle.scope.specs.Sound.{rooted, rooted_node}

-- "Failure outranks Indeterminate, which outranks Success"
pub failure_first : (r : Answer) → both r Failure ≡ Failure
failure_first Success = refl
failure_first Failure = refl
failure_first Indeterminate = refl

pub success_last : (r : Answer) → both r Success ≡ r
success_last Success = refl
success_last Failure = refl
success_last Indeterminate = refl

pub both_assoc : (a b c : Answer) → both (both a b) c ≡ both a (both b c)
both_assoc Success b c = refl
both_assoc Failure b c = refl
both_assoc Indeterminate Success c = refl
both_assoc Indeterminate Failure c = refl
both_assoc Indeterminate Indeterminate Success = refl
both_assoc Indeterminate Indeterminate Failure = refl
both_assoc Indeterminate Indeterminate Indeterminate = refl

pub both_comm : (a b : Answer) → both a b ≡ both b a
both_comm Success Success = refl
both_comm Success Failure = refl
both_comm Success Indeterminate = refl
both_comm Failure Success = refl
both_comm Failure Failure = refl
both_comm Failure Indeterminate = refl
both_comm Indeterminate Success = refl
both_comm Indeterminate Failure = refl
both_comm Indeterminate Indeterminate = refl

pub both_success : (a b : Answer) → both a b ≡ Success → (a ≡ Success) × (b ≡ Success)
both_success Success b e = (refl, e)
both_success Failure b e = let z : ◌≡◌ {A = ℕ} 0 1 = cc in absurd (omega arith)
both_success Indeterminate Success e = (e, refl)
both_success Indeterminate Failure e = let z : ◌≡◌ {A = ℕ} 0 1 = cc in absurd (omega arith)
both_success Indeterminate Indeterminate e = (e, e)

-- a root is its own root
pub climb_root : (f : ℕ) (ns : List Node) (t : Ty) {st : State} {z : ℕ} → at ns t.idx ≡ Root st z → climb f ns t ≡ t
unfolding climb
climb_root zero ns t e = refl
climb_root (suc f) ns t e = rw (e, climb)

pub find_root : (ns : List Node) (t : Ty) (st : State) (z : ℕ) → at ns t.idx ≡ Root st z → find ns t ≡ t
unfolding find
find_root ns t st z e = climb_root (length ns) ns t e

-- a child is found at its parent
pub climb_child : (f : ℕ) (ns : List Node) (t u : Ty) → at ns t.idx ≡ Child u → climb (suc f) ns t ≡ climb f ns (flip t.inv u)
unfolding climb
climb_child f ns t u e = rw (e, climb)

-- `find_mut` stops at a root, and points a child straight at the root r
pub compress_root : (f : ℕ) (ns : List Node) (r t : Ty) {st : State} {z : ℕ} → at ns t.idx ≡ Root st z → compress f ns r t ≡ ns
unfolding compress
compress_root zero ns r t e = refl
compress_root (suc f) ns r t e = rw (e, compress)

pub compress_child : (f : ℕ) (ns : List Node) (r t u : Ty) → at ns t.idx ≡ Child u
    → compress (suc f) ns r t ≡ compress f (set ns t.idx (Child (flip t.inv r))) r (flip t.inv u)
unfolding compress
compress_child f ns r t u e = rw (e, compress)

rooted_child : (f : ℕ) (ns : List Node) (i : ℕ) (u : Ty) → at ns i ≡ Child u → rooted (suc f) ns i ≡ rooted f ns u.idx
unfolding rooted
rooted_child f ns i u e = ap (λ n. rooted_node (rooted f ns) n) e

no_root : (ns : List Node) (i : ℕ) (u : Ty) → at ns i ≡ Child u → rooted zero ns i ≡ true → ⊥
unfolding rooted
no_root ns i u e r = let z : false ≡ true = sym (ap is_root e) ∙ r in let w : ◌≡◌ {A = ℕ} 0 1 = cc in omega arith

-- one more step changes nothing where a root is reached
more_first : (ns : List Node) (t : Ty) (n : Node) → at ns t.idx ≡ n → rooted zero ns t.idx ≡ true → climb (suc zero) ns t ≡ climb zero ns t
more_first ns t (Root st z) e r = climb_root (suc zero) ns t e ∙ sym (climb_root zero ns t e)
more_first ns t (Child u) e r = absurd (no_root ns t.idx u e r)

more_next : (f : ℕ) (ns : List Node) (t : Ty) (n : Node) → at ns t.idx ≡ n → rooted (suc f) ns t.idx ≡ true
    → ((u : Ty) → rooted f ns u.idx ≡ true → climb (suc f) ns u ≡ climb f ns u)
    → climb (suc (suc f)) ns t ≡ climb (suc f) ns t
more_next f ns t (Root st z) e r ih = climb_root (suc (suc f)) ns t e ∙ sym (climb_root (suc f) ns t e)
more_next f ns t (Child u) e r ih =
    climb_child (suc f) ns t u e ∙ ih (flip t.inv u) (sym (rooted_child f ns t.idx u e) ∙ r) ∙ sym (climb_child f ns t u e)

climb_more : (f : ℕ) (ns : List Node) (t : Ty) → rooted f ns t.idx ≡ true → climb (suc f) ns t ≡ climb f ns t
climb_more zero ns t r = more_first ns t (at ns t.idx) refl r
climb_more (suc f) ns t r = more_next f ns t (at ns t.idx) refl r (climb_more f ns)

-- "`find` follows parents": where no parent cycle is, a child's root is its parent's, "combining inversions by exclusive or"
pub find_child : (ns : List Node) (t u : Ty) → at ns t.idx ≡ Child u → rooted (length ns) ns t.idx ≡ true
    → find ns t ≡ find ns (flip t.inv u)
unfolding find
find_child ns t u e r = go (length ns) r
  where
    go : (f : ℕ) → rooted f ns t.idx ≡ true → climb f ns t ≡ climb f ns (flip t.inv u)
    go zero r = absurd (no_root ns t.idx u e r)
    go (suc f) r = climb_child f ns t u e ∙ sym (climb_more f ns (flip t.inv u) (sym (rooted_child f ns t.idx u e) ∙ r))
