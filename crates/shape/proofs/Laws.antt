-- One law for each way out of a function, and for each turn of a loop. A table that is right stays right where a number is stored that is.
-- Assumes nothing.
use mathlib.Core.Path.{◌≡◌, sym, ap, ◌∙◌}
use mathlib.Core.Bool.{Bool, true, false, false≢true}
use mathlib.Core.List.{List}
use Prim.Native.Nat.{ℕ, suc, ◌+◌, ◌-◌, ◌≤◌, ◌<◌}
use native.Mathlib.Decide.{ℕ_discrete}
use native.Mathlib.Numerals.{add-one}
use native.Mathlib.Omega.{arith}
use borrow.Author.Count.{below_more}
use borrow.Author.Tests.{eq-eqb, ne_eqb}
use lib.Dec.{eqb}
use lib.ListN.{length, get_or, set, take, length-set, length-take, replicate}
use lib.Seq.{get_or-set_same, get_or-set_other, get_or-take}
use Rattle.scope.specs.Base.{pick}
use Rattle.scope.specs.Limits.{MAX_NODES}
use Rattle.layout.proofs.Lists.{all_stop, all_done}
use Rattle.shape.specs.Walks.{ends, Up, Root, Parent, upward, Leads, here, more}
use Rattle.shape.specs.Read.{ups, root_of, tallied}
use Rattle.shape.specs.Asks.{ParentsInside, TrueRoots, Climbs, Climbed, ClimbedAll, Rooted, Tallies}
use Rattle.shape.proofs.Tables.{zeros, blank_long, stored_by}
use Rattle.shape.proofs.Lists.{count_most, count_last}
use Rattle.shape.proofs.Walks.{ends_none, ends_up, leads_ends}

-- climb

module _ (p : ℕ → Up) where
  pub right_none : TrueRoots p (replicate MAX_NODES 0)
  right_none = record { long = blank_long {A = ℕ} 0; right = λ v l. absurd (omega (arith, zeros MAX_NODES v)) }

  right_set : {roots : List ℕ} (v h : ℕ) → v < MAX_NODES → TrueRoots p roots → (0 < h → Leads p v (h - 1)) → TrueRoots p (set roots v h)
  right_set {roots} v h l r f = record {
    long = length-set roots v h ∙ r.long;
    right = stored_by 0 (λ u x. 0 < x → Leads p u (x - 1)) roots v h (omega (arith, r.long)) f (λ u z. r.right u);
  }

  -- roots that were known stay known where one that was not is stored
  stay_set : (roots₀ roots : List ℕ) (v h : ℕ) → v < MAX_NODES → TrueRoots p roots → get_or roots₀ v 0 ≡ 0 → ((u : ℕ) → 0 < get_or roots₀ u 0 → 0 < get_or roots u 0)
      → (u : ℕ) → 0 < get_or roots₀ u 0 → 0 < get_or (set roots v h) u 0
  stay_set roots₀ roots v h l r e f =
      stored_by 0 (λ u x. 0 < get_or roots₀ u 0 → 0 < x) roots v h (omega (arith, r.long)) (λ k. absurd (omega arith)) (λ u z. f u)

  pub climb_deep : {roots : List ℕ} {depth v : ℕ} → TrueRoots p roots → depth ≡ 0 → Climbed p depth v roots roots false
  climb_deep {v = v} r z = record { right = r; stay = λ u l. l; known = λ q. absurd (false≢true q); lost = λ _. rw z (ends_none (upward p) v) }

  pub climb_root : {roots roots' : List ℕ} {depth v z : ℕ} → v < MAX_NODES → TrueRoots p roots → p v ≡ Root z → roots' ≡ set roots v (v + 1) → Climbed p depth v roots roots' true
  climb_root {roots} {v = v} l r f s =
      let q : v + 1 - 1 ≡ v = omega arith in
      let k = get_or-set_same roots v (v + 1) 0 (omega (arith, r.long)) in
      rw s record {
        right = right_set v (v + 1) l r (λ _. rw q (here f));
        stay = stored_by 0 (λ u x. 0 < get_or roots u 0 → 0 < x) roots v (v + 1) (omega (arith, r.long)) (λ _. omega arith) (λ u z k. k);
        known = λ _. omega arith;
        lost = λ z. absurd (false≢true (sym z));
      }

  -- a node with a parent: its climb fails where the parent's does, and else it has the parent's root
  module _ {roots₀ roots : List ℕ} {depth v : ℕ} {u : ℕ} {r : Bool} (deep : depth ≡ 0 → ⊥) (up : p v ≡ Parent u) (w : Climbed p (depth - 1) u roots₀ roots r) where
    pub climb_lost : r ≡ false → Climbed p depth v roots₀ roots false
    climb_lost q =
        let d : depth ≡ suc (depth - 1) = omega arith in
        record { right = w.right; stay = w.stay; known = λ t. absurd (false≢true t); lost = λ _. rw d (ends_up p (depth - 1) v u up ∙ w.lost q) }

    pub climb_parent : {roots' : List ℕ} {m k : ℕ} → v < MAX_NODES → m ≡ get_or roots₀ v 0 → m ≡ 0 → r ≡ true → k ≡ get_or roots u 0
        → roots' ≡ set roots v k → Climbed p depth v roots₀ roots' true
    climb_parent {k = k} l e y q f s =
        let h = w.known q in
        let g = get_or-set_same roots v k 0 (omega (arith, w.right.long)) in
        rw s record {
          right = right_set v k l w.right (λ _. more up (rw f (w.right.right u h)));
          stay = stay_set roots₀ roots v k l w.right (omega arith) w.stay;
          known = λ _. omega arith;
          lost = λ t. absurd (false≢true (sym t));
        }

pub climbs_small : {ws roots : List ℕ} {n v : ℕ} → Climbs ws roots n v → v < MAX_NODES
climbs_small a = omega (arith, a.node, a.parents.few)

-- find_roots: the first v nodes have their roots

pub record Upto (p : ℕ → Up) (n v : ℕ) (roots : List ℕ) : Type 0 where
  pub most : v ≤ n
  pub right : TrueRoots p roots
  pub known : (u : ℕ) → u < v → 0 < get_or roots u 0

pub upto_more : {p : ℕ → Up} {n v : ℕ} {r : Bool} {roots roots' : List ℕ} → Upto p n v roots → v < n → Climbed p n v roots roots' r → r ≡ true → Upto p n (v + 1) roots'
upto_more a l w z = record {
  most = omega arith;
  right = w.right;
  known = below_more _ _ (λ u k. w.stay u (a.known u k)) (w.known z);
}

pub lost_all : {p : ℕ → Up} {n v : ℕ} {r : Bool} {roots roots' : List ℕ} → v < n → Climbed p n v roots roots' r → r ≡ false → ClimbedAll p n roots' false
lost_all {p} {n} {v} l w z = record {
  answer = all_stop (ends (upward p) n) n v l (w.lost z);
  complete = λ e. absurd (false≢true e);
}

pub climbed_all : {ws : List ℕ} {n v : ℕ} {roots : List ℕ} → ParentsInside ws n → Upto (ups ws n) n v roots → n ≤ v → ClimbedAll (ups ws n) n roots true
climbed_all {ws} {n} {v} {roots} f a l = record {
  answer = all_done (ends (upward (ups ws n)) n) n n (omega arith) (λ u k. leads_ends (ups ws n) n f.inside (each u k) k);
  complete = λ _. record { leads = each; known = λ u k. a.known u (omega arith) };
}
  where
    each : (u : ℕ) → u < n → Leads (ups ws n) u (root_of roots u)
    each u k = a.right.right u (a.known u (omega arith))

-- tally: the first v nodes are counted

pub record Counted (roots counts : List ℕ) (n v : ℕ) : Type 0 where
  pub most : v ≤ n
  pub long : length counts ≡ MAX_NODES
  pub each : (u : ℕ) → u < n → get_or counts u 0 ≡ tallied roots v u

pub tallies_none : {roots : List ℕ} {n : ℕ} → Rooted roots n → Tallies roots (replicate MAX_NODES 0) n
tallies_none a = record { rooted = a; long = blank_long {A = ℕ} 0; zeros = λ v l. zeros MAX_NODES v }

-- a node's number among the first n
pub tally_here : (roots : List ℕ) (n : ℕ) {v : ℕ} → v < length (take n roots) → (v < n) × (get_or (take n roots) v 0 - 1 ≡ root_of roots v)
tally_here roots n {v} h =
    let l : v < n = omega (arith, length-take n roots) in
    (l, ap (λ x. x - 1) (get_or-take n roots v 0 l))

counted_last : (roots : List ℕ) (v u : ℕ) (b : Bool) → eqb (root_of roots v) u ≡ b → tallied roots (v + 1) u ≡ tallied roots v u + pick b 1 0
counted_last roots v u b e =
    let z : 0 + v ≡ v = omega arith in
    rw add-one (count_last (λ i. eqb (root_of roots i) u) 0 v ∙ rw (z, e))

pub counted_more : {roots counts : List ℕ} {n v r : ℕ} → Rooted roots n → Counted roots counts n v → v < n → r ≡ root_of roots v
    → Counted roots (set counts r (get_or counts r 0 + 1)) n (v + 1)
counted_more {roots} {counts} {n} {v} {r} a w l e = record {
  most = omega arith;
  long = length-set counts r (get_or counts r 0 + 1) ∙ w.long;
  each = λ u k. go u k (ℕ_discrete u r);
}
  where
    go : (u : ℕ) → u < n → Dec (u ≡ r) → get_or (set counts r (get_or counts r 0 + 1)) u 0 ≡ tallied roots (v + 1) u
    go u k (yes q) =
        let m : r < length counts = omega (arith, w.long, a.below v l, a.few) in
        let c = counted_last roots v u true (eq-eqb (root_of roots v) u (sym (q ∙ e))) in
        omega (arith, ap (λ (x : ℕ). get_or (set counts r (get_or counts r 0 + 1)) x 0) q, get_or-set_same counts r (get_or counts r 0 + 1) 0 m, ap (λ (x : ℕ). get_or counts x 0) q, w.each u k, c)
    go u k (no q) =
        let c = counted_last roots v u false (ne_eqb (root_of roots v) u (λ z. q (sym z ∙ sym e))) in
        omega (arith, get_or-set_other counts r u (get_or counts r 0 + 1) 0 q, w.each u k, c)

pub count_small : {roots counts : List ℕ} {n v r : ℕ} → Rooted roots n → Counted roots counts n v → v < n → r ≡ root_of roots v → get_or counts r 0 < MAX_NODES
count_small {roots} {counts} {n} {v} {r} a w l e =
    let k : r < n = omega (arith, a.below v l) in
    omega (arith, w.each r k, count_most (λ i. eqb (root_of roots i) r) 0 v, a.few)
