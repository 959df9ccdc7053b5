-- Walks that end within some number of nodes end within n, where there are n: a node whose longest walk has h + 1 nodes is one of at least h + 1 nodes
-- whose walks end within as many, since a node that its walk goes through has h. So a walk that never ends is found at depth n.
-- Assumes nothing.
use mathlib.Core.Path.{◌≡◌, refl, sym, ◌∙◌}
use mathlib.Core.Bool.{Bool, true, false, false≢true}
use Prim.Native.Nat.{ℕ, zero, suc, ◌+◌, ◌≤◌, ◌<◌}
use native.Mathlib.Omega.{arith}
use Rattle.scope.specs.Base.{count, from}
use Rattle.shape.specs.Walks.{Graph, ends, InRun, Closed, Up, Root, Parent, deg_by, to_by, upward, Leads, here, more}
use Rattle.shape.proofs.Lists.{all_find, count_most, count_more}
use Rattle.scope.proofs.TestLaws.{same_bool}
use Rattle.std.proofs.lemmas.Bool.{false_from_ne_true}
use Rattle.scope.proofs.Sizes.{all_from, from_all}

module _ (g : Graph) where
  pub ends_none : (v : ℕ) → ends g 0 v ≡ false
  unfolding ends
  ends_none v = refl

  -- along a way on the bound falls by one
  pub ends_on : (d v i : ℕ) → ends g (suc d) v ≡ true → InRun g v i → ends g d (g.to i) ≡ true
  unfolding ends
  ends_on d v i t r = from_all (λ j. ends g d (g.to j)) (g.first v) (g.deg v) t i r.from r.below

  pub ends_from : (d v : ℕ) → ((i : ℕ) → InRun g v i → ends g d (g.to i) ≡ true) → ends g (suc d) v ≡ true
  unfolding ends
  ends_from d v f = all_from (λ j. ends g d (g.to j)) (g.first v) (g.deg v) (λ i a b. f i (record { from = a; below = b }))

  pub ends_not : (d v i : ℕ) → InRun g v i → ends g d (g.to i) ≡ false → ends g (suc d) v ≡ false
  ends_not d v i r e = false_from_ne_true (ends g (suc d) v) (λ t. false≢true (sym e ∙ ends_on d v i t r))

  -- a way on from which walks are too long
  pub ends_find : (d v : ℕ) → ends g (suc d) v ≡ false → (i : ℕ) × InRun g v i × (ends g d (g.to i) ≡ false)
  unfolding ends
  ends_find d v e =
      let w = all_find (λ j. ends g d (g.to j)) (g.first v) (g.deg v) e in
      (w.0, record { from = w.1; below = w.2 }, w.3)

  pub ends_more : (d v : ℕ) → ends g d v ≡ true → ends g (suc d) v ≡ true
  ends_more zero v t = absurd (false≢true (sym (ends_none v) ∙ t))
  ends_more (suc d) v t = ends_from (suc d) v (λ i r. ends_more d (g.to i) (ends_on d v i t r))

  module _ (n : ℕ) (closed : Closed g n) where
    -- a longest walk of h + 1 nodes, and as many nodes
    crowd : (h v : ℕ) → v < n → ends g (suc h) v ≡ true → ends g h v ≡ false → h < count (ends g (suc h)) (from 0 n)
    crowd zero v l t e = omega (arith, count_more (ends g 0) (ends g 1) (ends_more 0) 0 n v (omega arith) (omega arith) e t)
    crowd (suc h) v l t e =
        let w = ends_find h v e in
        let k = crowd h (g.to w.0) (closed.inside v w.0 l w.1) (ends_on (suc h) v w.0 t w.1) w.2 in
        let m = count_more (ends g (suc h)) (ends g (suc (suc h))) (ends_more (suc h)) 0 n v (omega arith) (omega arith) e t in
        omega arith

    pub ends_within : (v : ℕ) → v < n → ends g (suc n) v ≡ true → ends g n v ≡ true
    ends_within v l t = go (ends g n v) refl
      where
        go : (b : Bool) → ends g n v ≡ b → ends g n v ≡ true
        go true e = e
        go false e = absurd (omega (arith, crowd n v l t e, count_most (ends g (suc n)) 0 n))

    -- one more node before walks that end
    pub ends_before : (v : ℕ) → v < n → ((i : ℕ) → InRun g v i → ends g n (g.to i) ≡ true) → ends g n v ≡ true
    ends_before v l f = ends_within v l (ends_from n v f)

-- parents

deg_most : (u : Up) → deg_by u ≤ 1
deg_most (Root z) = omega arith
deg_most (Parent u) = omega arith

module _ (p : ℕ → Up) where
  -- a node's one place is its own number
  pub run_up : (v : ℕ) (u : ℕ) → p v ≡ Parent u → InRun (upward p) v v
  run_up v u e = record { from = omega arith; below = rw e (omega arith) }

  run_own : (v i : ℕ) → InRun (upward p) v i → i ≡ v
  run_own v i r = omega (arith, r.from, r.below, deg_most (p v))

  run_root : (v z i : ℕ) → p v ≡ Root z → InRun (upward p) v i → ⊥
  run_root v z i e r = let l : i < v + 0 = rw e at r.below in omega (arith, r.from)

  module _ (n : ℕ) (inside : (v : ℕ) → v < n → to_by (p v) < n) where
    up_closed : Closed (upward p) n
    up_closed = record { inside = λ v i l r. rw (run_own v i r) (inside v l) }

    up_below : (v : ℕ) (u : ℕ) → v < n → p v ≡ Parent u → u < n
    up_below v u l e = rw e at (inside v l)

    pub leads_below : {v r : ℕ} → Leads p v r → v < n → r < n
    leads_below (here e) l = l
    leads_below (more {v = v} {u = u} e k) l = leads_below k (up_below v u l e)

    -- who comes to a root does so within n nodes
    pub leads_ends : {v r : ℕ} → Leads p v r → v < n → ends (upward p) n v ≡ true
    leads_ends (here {v = v} {z = z} e) l = ends_before (upward p) n up_closed v l (λ i r. absurd (run_root v z i e r))
    leads_ends (more {v = v} {u = u} e k) l =
        let t = leads_ends k (up_below v u l e) in
        ends_before (upward p) n up_closed v l (λ i r. rw (run_own v i r, e) t)

    pub up_within : (v : ℕ) → v < n → ends (upward p) (suc n) v ≡ true → ends (upward p) n v ≡ true
    up_within = ends_within (upward p) n up_closed

  -- the bound at a root, and below a parent
  pub ends_root : (d v z : ℕ) → p v ≡ Root z → ends (upward p) (suc d) v ≡ true
  ends_root d v z e = ends_from (upward p) d v (λ i r. absurd (run_root v z i e r))

  pub ends_up : (d v : ℕ) (u : ℕ) → p v ≡ Parent u → ends (upward p) (suc d) v ≡ ends (upward p) d u
  ends_up d v u e =
      same_bool (ends (upward p) (suc d) v) (ends (upward p) d u)
      (λ t. rw e at (ends_on (upward p) d v v t (run_up v u e)))
      (λ t. ends_from (upward p) d v (λ i r. rw (run_own v i r, e) t))
