-- The walk of `needs` one level at a time, and how large its sums get: a root is counted only where its mark is 0 and is set then, so there are no more
-- nodes than marks, and no more children than nodes times the widest kind. Holds of any nodes. Assumes nothing.
use mathlib.Core.Path.{◌≡◌, refl, ap, ◌∙◌}
use mathlib.Core.List.{List, [], ◌∷◌}
use mathlib.Core.Bool.{Bool, true, false}
use mathlib.Core.Option.{Option}
use mathlib.Core.Logic.{◌≢◌}
use Prim.Native.Nat.{ℕ, zero, suc, ◌+◌, ◌*◌, ◌≤◌, ◌<◌}
use native.Mathlib.Nat.{add-mul, one-mul}
use native.Mathlib.Omega.{arith}
use lib.Dec.{eqb}
use lib.ListN.{length, get_or, set, replicate, length-set, length-replicate}
use borrow.Author.Tests.{eqb-true, eq-eqb, ne_eqb}
use Rattle.scope.specs.Base.{count}
use Rattle.scope.specs.Types.{Ty}
use Rattle.scope.specs.Nodes.{State, Node, at, state_of, state_at, find, kids_of}
use Rattle.scope.specs.Import.{Replaced, keep, missing_entry, entry, replaced}
use Rattle.scope.specs.Needs.{Counted, counted, missed, count_all, count_new, count_root, count_f, uncounted}

module _ (ns : List Node) (ps : Option (List Ty)) where
  -- no depth is left
  pub count_end : (c : Counted) (t : Ty) → count_f zero ns ps c t ≡ c
  unfolding count_f
  count_end c t = refl

  -- a root that was counted, or has no mark; at any depth
  pub count_old : (f : ℕ) (c : Counted) (t : Ty) → get_or c.marks (find ns t).idx 1 ≢ 0 → count_f f ns ps c t ≡ c
  unfolding count_f
  count_old zero c t h = refl
  count_old (suc f) c t h = rw (ne_eqb (get_or c.marks (find ns t).idx 1) 0 h)

  -- a Param with an entry, whatever its mark; at any depth
  pub count_entry : (f : ℕ) (c : Counted) (t u : Ty) → replaced ps (state_at ns t) ≡ entry u → count_f f ns ps c t ≡ c
  unfolding count_f
  count_entry zero c t u e = refl
  count_entry (suc f) c t u e = rw e (go (eqb (get_or c.marks (find ns t).idx 1) 0))
    where
      go : (b : Bool) → count_root (count_f f ns ps) b c (find ns t).idx (state_at ns t) (entry u) ≡ c
      go true = refl
      go false = refl

  -- a root that was not counted
  pub count_new_lem : (f : ℕ) (c : Counted) (t : Ty) → get_or c.marks (find ns t).idx 1 ≡ 0
      → count_f (suc f) ns ps c t ≡ count_new (count_f f ns ps) c (find ns t).idx (state_at ns t) (replaced ps (state_at ns t))
  unfolding count_f
  count_new_lem f c t e = rw (eq-eqb (get_or c.marks (find ns t).idx 1) 0 e)

  pub count_missing : (f : ℕ) (c : Counted) (t : Ty) → get_or c.marks (find ns t).idx 1 ≡ 0 → replaced ps (state_at ns t) ≡ missing_entry
      → count_f (suc f) ns ps c t ≡ missed c
  count_missing f c t e q = count_new_lem f c t e ∙ ap (count_new (count_f f ns ps) c (find ns t).idx (state_at ns t)) q

  pub count_keep : (f : ℕ) (c : Counted) (t : Ty) → get_or c.marks (find ns t).idx 1 ≡ 0 → replaced ps (state_at ns t) ≡ keep
      → count_f (suc f) ns ps c t ≡ count_all (count_f f ns ps) (counted c (find ns t).idx (state_at ns t)) (kids_of (state_at ns t))
  count_keep f c t e q = count_new_lem f c t e ∙ ap (count_new (count_f f ns ps) c (find ns t).idx (state_at ns t)) q

-- the marks that are 0
unfoldable pub zeros_in : List ℕ → ℕ
zeros_in ms = count (λ m. eqb m 0) ms

zeros_set : (ms : List ℕ) (r : ℕ) → get_or ms r 1 ≡ 0 → zeros_in ms ≡ suc (zeros_in (set ms r 1))
unfolding zeros_in
zeros_set [] r e = absurd (omega arith)
zeros_set (m ∷ ms) zero e = rw (eq-eqb m 0 e) (omega arith)
zeros_set (m ∷ ms) (suc r) e = omega (arith, zeros_set ms r e)

zeros_all : (m : ℕ) → zeros_in (replicate m 0) ≡ m
unfolding zeros_in
zeros_all zero = refl
zeros_all (suc m) = omega (arith, zeros_all m)

-- sums that the marks bound, where no kind has more than b children
pub record Small (b : ℕ) (c : Counted) : Type 0 where
  pub nodes : c.sum.nodes + zeros_in c.marks ≤ length c.marks
  pub children : c.sum.children ≤ c.sum.nodes * b

pub small_start : (b m : ℕ) → Small b (uncounted (replicate m 0))
small_start b m = record { nodes = omega (arith, zeros_all m, length-replicate {A = ℕ} m 0); children = omega arith }

module _ {b : ℕ} {c : Counted} (small : Small b c) where
  -- one node more can be counted
  pub small_room : (r : ℕ) → get_or c.marks r 1 ≡ 0 → c.sum.nodes < length c.marks
  small_room r e = omega (arith, small.nodes, zeros_set c.marks r e)

  pub small_counted : (r : ℕ) (st : State) → get_or c.marks r 1 ≡ 0 → length (kids_of st) ≤ b → Small b (counted c r st)
  small_counted r st e w = record {
    nodes = omega (arith, small.nodes, zeros_set c.marks r e, length-set c.marks r 1);
    children = omega (arith, small.children, add-mul c.sum.nodes 1 b, one-mul b);
  }

  pub small_missed : Small b (missed c)
  small_missed = record { nodes = small.nodes; children = small.children }

pub small_all : {b : ℕ} (g : Counted → Ty → Counted) → ((c : Counted) (t : Ty) → Small b c → Small b (g c t)) → (c : Counted) (ts : List Ty) → Small b c
    → Small b (count_all g c ts)
small_all g step c [] small = small
small_all g step c (t ∷ ts) small = small_all g step (g c t) ts (step c t small)

module _ (b : ℕ) (ns : List Node) (ps : Option (List Ty)) (narrow : (r : ℕ) → length (kids_of (state_of (at ns r))) ≤ b) where
  pub small_count : (f : ℕ) (c : Counted) (t : Ty) → Small b c → Small b (count_f f ns ps c t)
  unfolding count_f
  small_count zero c t small = small
  small_count (suc f) c t small = go (eqb (get_or c.marks (find ns t).idx 1) 0) refl (replaced ps (state_at ns t)) (small_all (count_f f ns ps) (small_count f))
    where
      go : (q : Bool) → eqb (get_or c.marks (find ns t).idx 1) 0 ≡ q → (u : Replaced)
          → ((c : Counted) (ts : List Ty) → Small b c → Small b (count_all (count_f f ns ps) c ts))
          → Small b (count_root (count_f f ns ps) q c (find ns t).idx (state_at ns t) u)
      go false e u ih = small
      go true e (entry x) ih = small
      go true e missing_entry ih = small_missed small
      go true e keep ih =
          ih (counted c (find ns t).idx (state_at ns t)) (kids_of (state_at ns t))
          (small_counted small (find ns t).idx (state_at ns t) (eqb-true (get_or c.marks (find ns t).idx 1) 0 e) (narrow (find ns t).idx))
