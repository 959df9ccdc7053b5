-- What the calls here ask, that two sizes can be added, holds as long as all sizes together stay small: nothing that `unify` does to the nodes makes
-- the sum of their sizes grow, whatever the nodes are. A join moves one size to another node, and a path that is pointed at its root has none.
-- Assumes nothing.
use mathlib.Core.Path.{◌≡◌, refl}
use mathlib.Core.Bool.{Bool, true, false, ◌||◌}
use mathlib.Core.List.{List, [], ◌∷◌}
use mathlib.Core.Option.{Option, none, some}
use Prim.Native.Nat.{ℕ, zero, suc, ◌+◌, ◌≤◌}
use native.Mathlib.Omega.{arith}
use lib.Dec.{eqb, ltb}
use lib.ListN.{set}
use Rattle.scope.specs.Base.{pick, xor}
use Rattle.scope.specs.Limits.{MAX_NODES}
use Rattle.scope.specs.Names.{Texts}
use Rattle.scope.specs.Types.{Ty, flip}
use Rattle.scope.specs.Nodes.{Kind, State, Node, Root, Child, at, size_of, compress, find, find_mut}
use Rattle.scope.specs.Answers.{Answer, Success, Failure, Indeterminate, both}
use Rattle.scope.specs.Demand.{sizes}
use Rattle.scope.specs.Unify.{Plan, Out, out, run, join, merge, state_in, kind_in, occurs, bound, bind, settle, plan, meet_kinds, same_node, meet, unify_f}
use Rattle.scope.proofs.Laws.{compress_root, compress_child}
use Rattle.layout.specs.Words.{decode}
use Rattle.layout.specs.Meaning.{Clean}
use Rattle.merge.specs.Meaning.{Adds}
use Rattle.layout.proofs.HeldLaws.{size_read}

-- one size is at most all of them
pub size_below : (ns : List Node) (i : ℕ) → size_of (at ns i) ≤ sizes ns
unfolding sizes
size_below [] i = omega arith
size_below (x ∷ ns) zero = omega arith
size_below (x ∷ ns) (suc i) = omega (arith, size_below ns i)

-- two sizes can be added
pub sizes_add : (ws ks : List ℕ) (c n : ℕ) → Clean ws ks c n → sizes (decode ws ks n) ≤ MAX_NODES → (a b : Ty) → Adds ws n a b
sizes_add ws ks c n cl h a b = record {
  room = cl.room;
  sizes = omega (arith, size_read ws ks c n cl a.idx, size_read ws ks c n cl b.idx, size_below (decode ws ks n) a.idx, size_below (decode ws ks n) b.idx);
}

-- another node at i: its size for the old one's
sizes_set : (ns : List Node) (i : ℕ) (v : Node) → sizes (set ns i v) + size_of (at ns i) ≤ sizes ns + size_of v
unfolding sizes
sizes_set [] i v = omega arith
sizes_set (x ∷ ns) zero v = omega arith
sizes_set (x ∷ ns) (suc i) v = omega (arith, sizes_set ns i v)

-- a node as large as j's at i leaves none smaller at j
size_set : (ns : List Node) (i j : ℕ) (v : Node) → size_of (at ns j) ≤ size_of v → size_of (at ns j) ≤ size_of (at (set ns i v) j)
size_set [] i j v h = omega arith
size_set (x ∷ ns) zero zero v h = h
size_set (x ∷ ns) zero (suc j) v h = omega arith
size_set (x ∷ ns) (suc i) zero v h = omega arith
size_set (x ∷ ns) (suc i) (suc j) v h = size_set ns i j v h

pub join_sizes : (ns : List Node) (w l : Ty) (st : State) → sizes (join ns w l st) ≤ sizes ns
join_sizes ns w l st =
    let y : ℕ = size_of (at ns w.idx) in
    let z : ℕ = size_of (at ns l.idx) in
    let once : List Node = set ns w.idx (Root st (y + z)) in
    omega (arith, sizes_set ns w.idx (Root st (y + z)), sizes_set once l.idx (Child (flip l.inv w)), size_set ns w.idx l.idx (Root st (y + z)) (omega arith))

merge_by : (t : Bool) (ns : List Node) (a b : Ty) (sa sb : State) → sizes (pick t (join ns a b sa) (join ns b a sb)) ≤ sizes ns
merge_by true ns a b sa sb = join_sizes ns a b sa
merge_by false ns a b sa sb = join_sizes ns b a sb

pub merge_sizes : (ns : List Node) (a b : Ty) (sa sb : State) → sizes (merge ns a b sa sb) ≤ sizes ns
unfolding merge
merge_sizes ns a b sa sb = merge_by (ltb (size_of (at ns b.idx)) (size_of (at ns a.idx))) ns a b sa sb

bind_by : (ns : List Node) (a b : Ty) (t : Bool) → sizes (pick t (out ns Failure) (out (bound ns a b) Success)).nodes ≤ sizes ns
bind_by ns a b true = omega arith
bind_by ns a b false = merge_sizes ns a b _ _

pub bind_sizes : (n : ℕ) (ns : List Node) (a b : Ty) → sizes (bind n ns a b).nodes ≤ sizes ns
unfolding bind
bind_sizes n ns a b = bind_by ns a b (occurs n ns a.idx b.idx || occurs n ns b.idx a.idx)

pub settle_sizes : (ns : List Node) (a b : Ty) (r : Answer) → sizes (settle ns a b r).nodes ≤ sizes ns
unfolding settle
settle_sizes ns a b Success = merge_sizes ns a b (state_in ns a) (state_in ns b)
settle_sizes ns a b Failure = omega arith
settle_sizes ns a b Indeterminate = omega arith

-- `find_mut`

point_sizes : (v : Node) (f : ℕ) (r : Ty) → ((ns : List Node) (t : Ty) → sizes (compress f ns r t) ≤ sizes ns)
    → (ns : List Node) (t : Ty) → at ns t.idx ≡ v → sizes (compress (suc f) ns r t) ≤ sizes ns
point_sizes (Root st z) f r h ns t e = rw (compress_root (suc f) ns r t e) (omega arith)
point_sizes (Child u) f r h ns t e =
    let v : Node = Child (flip t.inv r) in
    rw (compress_child f ns r t u e) (omega (arith, sizes_set ns t.idx v, h (set ns t.idx v) (flip t.inv u)))

compress_sizes : (f : ℕ) (ns : List Node) (r t : Ty) → sizes (compress f ns r t) ≤ sizes ns
unfolding compress
compress_sizes zero ns r t = omega arith
compress_sizes (suc f) ns r t = point_sizes (at ns t.idx) f r (λ ns' t'. compress_sizes f ns' r t') ns t refl

pub find_mut_sizes : (ns : List Node) (t : Ty) → sizes (find_mut ns t) ≤ sizes ns
unfolding find_mut
find_mut_sizes ns t = compress_sizes _ ns (find ns t) t

-- `unify`, where u, one level down, does not make the sum grow

module _ (u : List Node → Ty → Ty → Out) (h : (ns : List Node) (a b : Ty) → sizes (u ns a b).nodes ≤ sizes ns) where
  pub run_sizes : (ns : List Node) (r : Answer) (ps : List (Ty × Ty)) → sizes (run u ns r ps).nodes ≤ sizes ns
  unfolding run
  run_sizes ns r [] = omega arith
  run_sizes ns r (p ∷ ps) =
      let o : Out = u ns p.0 p.1 in
      omega (arith, h ns p.0 p.1, run_sizes o.nodes (both r o.answer) ps)

  kinds_sizes : (x : Texts) (n : ℕ) (ns : List Node) (a b : Ty) (k m : Option (Bool × Kind)) → sizes (meet_kinds u x n ns a b k m).nodes ≤ sizes ns
  kinds_sizes x n ns a b (some k) (some m) =
      let l : Plan = plan x k.1 m.1 (xor k.0 m.0) in
      let o : Out = run u ns l.base l.pairs in
      omega (arith, run_sizes ns l.base l.pairs, settle_sizes o.nodes a b o.answer)
  kinds_sizes x n ns a b (some k) none = bind_sizes n ns a b
  kinds_sizes x n ns a b none m = bind_sizes n ns a b

  meet_by : (t : Bool) (ns : List Node) (r : Answer) (o : Out) → sizes o.nodes ≤ sizes ns → sizes (pick t (out ns r) o).nodes ≤ sizes ns
  meet_by true ns r o k = omega arith
  meet_by false ns r o k = k

  pub meet_sizes : (x : Texts) (n : ℕ) (ns : List Node) (a b : Ty) → sizes (meet u x n ns a b).nodes ≤ sizes ns
  unfolding meet
  meet_sizes x n ns a b =
      meet_by (eqb a.idx b.idx) ns (same_node n ns a b) (meet_kinds u x n ns a b (kind_in ns a) (kind_in ns b)) (kinds_sizes x n ns a b (kind_in ns a) (kind_in ns b))

pub unify_sizes : (x : Texts) (n f : ℕ) (ns : List Node) (p q : Ty) → sizes (unify_f x n f ns p q).nodes ≤ sizes ns
unfolding unify_f
unify_sizes x n zero ns p q = omega arith
unify_sizes x n (suc f) ns p q =
    let ns₁ : List Node = find_mut ns p in
    let ns₂ : List Node = find_mut ns₁ q in
    omega (arith, find_mut_sizes ns p, find_mut_sizes ns₁ q, meet_sizes (unify_f x n f) (unify_sizes x n f) x n ns₂ (find ns p) (find ns₁ q))
