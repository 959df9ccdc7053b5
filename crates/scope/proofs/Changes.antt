-- How often nodes can change: a merge leaves one root less, and a path that is shortened leaves one node less whose parent is no root. What is left of both is
-- `changes_left`, at most n (n + 1) of n nodes. Assumes nothing.
use mathlib.Core.Path.{◌≡◌, refl, sym, ap, ◌∙◌}
use mathlib.Core.List.{List, [], ◌∷◌}
use mathlib.Core.Bool.{Bool, true, false, not}
use mathlib.Core.Logic.{◌≢◌, ◌⊎◌, inl, inr}
use Prim.Native.Nat.{ℕ, zero, suc, ◌+◌, ◌*◌, ◌≤◌, ◌<◌}
use native.Mathlib.Nat.{not-suc-le-zero, mul-le-mul_left}
use native.Mathlib.Omega.{arith}
use lib.Dec.{ltb}
use lib.ListN.{length, get_or, set, length-set}
use lib.Seq.{get_or-set_same, get_or-set_other}
use Rattle.scope.specs.Base.{pick, count}
use Rattle.scope.specs.Types.{Ty, flip}
use Rattle.scope.specs.Nodes.{State, Node, Root, Child, at, is_root, size_of, find, compress, find_mut}
use Rattle.scope.specs.Unify.{join, merge}
use Rattle.scope.specs.Recall.{near_node, near}
use Rattle.scope.proofs.Laws.{compress_root, compress_child}
use Rattle.scope.proofs.ViewLaws.{same?}
use Rattle.scope.proofs.TestLaws.{tf, count_apart}
use Rattle.scope.proofs.Paths.{beyond, Forest, find_idx, rep_root, child_inside}
use Rattle.scope.proofs.Merge.{Roots, join_len}

-- a node whose parent is no root
abbrev far : List Node → Node → Bool
far ns v = not (near_node ns v)

abbrev roots : List Node → ℕ
roots ns = count is_root ns

abbrev fars : List Node → ℕ
fars ns = count (far ns) ns

unfoldable pub changes_left : List Node → ℕ
changes_left ns = suc (length ns) * roots ns + fars ns

-- counting after one element is set
abbrev one : Bool → ℕ
one b = pick b 1 0

count_set : {A : Type 0} (p : A → Bool) (xs : List A) (i : ℕ) (x d : A) → i < length xs → count p (set xs i x) + one (p (get_or xs i d)) ≡ count p xs + one (p x)
count_set p [] i x d h = absurd (not-suc-le-zero h)
count_set p (y ∷ ys) zero x d h = omega arith
count_set p (y ∷ ys) (suc i) x d h = omega (arith, count_set p ys i x d (omega arith))

count_same : {A : Type 0} (p q : A → Bool) → ((x : A) → p x ≡ q x) → (xs : List A) → count p xs ≡ count q xs
count_same p q h [] = refl
count_same p q h (x ∷ xs) = omega (arith, ap one (h x), count_same p q h xs)

far_child : (ns : List Node) (v : Node) → is_root v ≡ true → far ns v ≡ false
far_child ns (Root st z) e = refl
far_child ns (Child u) e = tf (sym e)

roots_fars : (ns : List Node) → roots ns + fars ns ≤ length ns
roots_fars ns = count_apart is_root (far ns) (far_child ns) ns

pub changes_most : (ns : List Node) → changes_left ns ≤ length ns * suc (length ns)
unfolding changes_left
changes_most ns = omega (arith, mul-le-mul_left (suc (length ns)) (roots_fars ns))

-- a child pointed at a root
module _ (ns : List Node) (i : ℕ) (u r : Ty) (e : at ns i ≡ Child u) where
  abbrev ms : List Node
  ms = set ns i (Child r)

  roots_at : (j : ℕ) → is_root (at ms j) ≡ is_root (at ns j)
  roots_at j = go (same? j i)
    where
      go : (j ≡ i) ⊎ (j ≢ i) → is_root (at ms j) ≡ is_root (at ns j)
      go (inl q) = ap (λ (k : ℕ). is_root (at ms k)) q ∙ (ap is_root (get_or-set_same ns i (Child r) beyond (child_inside ns i e)) ∙ sym (ap is_root (ap (at ns) q ∙ e)))
      go (inr q) = ap is_root (get_or-set_other ns i j (Child r) beyond q)

  far_at : (v : Node) → far ms v ≡ far ns v
  far_at (Root st z) = refl
  far_at (Child t) = ap not (roots_at t.idx)

  point_roots : roots ms ≡ roots ns
  point_roots = omega (arith, count_set is_root ns i (Child r) beyond (child_inside ns i e), ap (λ (v : Node). one (is_root v)) e)

  point_fars : is_root (at ns r.idx) ≡ true → fars ms + one (far ns (Child u)) ≡ fars ns
  point_fars h = omega (
    arith,
    count_same (far ms) (far ns) far_at ms,
    count_set (far ns) ns i (Child r) beyond (child_inside ns i e),
    ap (λ (v : Node). one (far ns v)) e,
    ap (λ (b : Bool). one (not b)) h,
  )

-- `find_mut` along a path
pub record Tidier (ns ns' : List Node) : Type 0 where
  pub roots : roots ns' ≡ roots ns
  pub fars : fars ns' ≤ fars ns
  pub len : length ns' ≡ length ns

compress_tidier : (f : ℕ) (ns : List Node) (r t : Ty) → is_root (at ns r.idx) ≡ true → Tidier ns (compress f ns r t)
unfolding compress
compress_tidier zero ns r t h = record { roots = refl; fars = omega arith; len = refl }
compress_tidier (suc f) ns r t h = go (at ns t.idx) refl (λ ns' t' h'. compress_tidier f ns' r t' h')
  where
    go : (v : Node) → at ns t.idx ≡ v → ((ns' : List Node) (t' : Ty) → is_root (at ns' r.idx) ≡ true → Tidier ns' (compress f ns' r t')) → Tidier ns (compress (suc f) ns r t)
    go (Root st z) e ih = rw (compress_root (suc f) ns r t e) (record { roots = refl; fars = omega arith; len = refl })
    go (Child u) e ih =
        let v : Ty = flip t.inv r in
        let d = ih (set ns t.idx (Child v)) (flip t.inv u) (roots_at ns t.idx u v e r.idx ∙ h) in
        rw (compress_child f ns r t u e) (record {
          roots = d.roots ∙ point_roots ns t.idx u v e;
          fars = omega (arith, d.fars, point_fars ns t.idx u v e h);
          len = d.len ∙ length-set ns t.idx (Child v);
        })

-- a path that is shortened
far_fewer : (f : ℕ) (ns : List Node) (r t u : Ty) → is_root (at ns r.idx) ≡ true → at ns t.idx ≡ Child u → far ns (Child u) ≡ true → 0 < f
    → (fars (compress f ns r t) < fars ns) × (roots (compress f ns r t) ≡ roots ns) × (length (compress f ns r t) ≡ length ns)
far_fewer zero ns r t u h e q g = absurd (omega arith)
far_fewer (suc f) ns r t u h e q g =
    let v : Ty = flip t.inv r in
    let d = compress_tidier f (set ns t.idx (Child v)) r (flip t.inv u) (roots_at ns t.idx u v e r.idx ∙ h) in
    rw (compress_child f ns r t u e) (
      omega (arith, d.fars, point_fars ns t.idx u v e h, ap one q),
      d.roots ∙ point_roots ns t.idx u v e,
      d.len ∙ length-set ns t.idx (Child v),
    )

pub find_mut_fewer : {ns : List Node} → Forest ns → (t : Ty) → near ns t ≡ false → changes_left (find_mut ns t) < changes_left ns
unfolding find_mut changes_left
find_mut_fewer {ns} ok t h = go (at ns t.idx) refl h
  where
    top : is_root (at ns (find ns t).idx) ≡ true
    top = ap (λ (i : ℕ). is_root (at ns i)) (find_idx ns t) ∙ ap is_root (rep_root ok t.idx).2

    go : (v : Node) → at ns t.idx ≡ v → near_node ns v ≡ false
        → suc (length (compress (length ns) ns (find ns t) t)) * roots (compress (length ns) ns (find ns t) t) + fars (compress (length ns) ns (find ns t) t)
        < suc (length ns) * roots ns + fars ns
    go (Root st z) e q = tf q
    go (Child u) e q =
        let d = far_fewer (length ns) ns (find ns t) t u top e (ap not q) (omega (arith, child_inside ns t.idx e)) in
        rw (d.1, d.2) (omega (arith, d.0))

-- a merge
join_fewer : (ns : List Node) (w l : Ty) (st : State) → Roots ns w l → changes_left (join ns w l st) < changes_left ns
unfolding changes_left
join_fewer ns w l st two =
    let v : Node = Root st (size_of (at ns w.idx) + size_of (at ns l.idx)) in
    let ms : List Node = set ns w.idx v in
    let c : Node = Child (flip l.inv w) in
    let a : roots ms ≡ roots ns = omega (arith, count_set is_root ns w.idx v beyond two.w_inside, ap (λ (y : Node). one (is_root y)) two.w_root) in
    let k : at ms l.idx ≡ at ns l.idx = get_or-set_other ns w.idx l.idx v beyond (λ q. two.apart (sym q)) in
    let b : suc (roots (join ns w l st)) ≡ roots ns = omega (
      arith,
      a,
      count_set is_root ms l.idx c beyond (omega (arith, length-set ns w.idx v, two.l_inside)),
      ap (λ (y : Node). one (is_root y)) (k ∙ two.l_root),
    ) in
    omega (arith, ap (λ (r : ℕ). suc (length ns) * r) b, ap (λ (n : ℕ). suc n * roots (join ns w l st)) (join_len ns w l st two), roots_fars (join ns w l st), join_len ns w l st two)

pub merge_fewer : (ns : List Node) (a b : Ty) (sa sb : State) → Roots ns a b → Roots ns b a → changes_left (merge ns a b sa sb) < changes_left ns
unfolding merge
merge_fewer ns a b sa sb two owt = go (ltb (size_of (at ns b.idx)) (size_of (at ns a.idx)))
  where
    go : (v : Bool) → changes_left (pick v (join ns a b sa) (join ns b a sb)) < changes_left ns
    go true = join_fewer ns a b sa two
    go false = join_fewer ns b a sb owt
