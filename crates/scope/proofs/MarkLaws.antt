-- `occurs` and `self_inverse` by marks: one walk of `find_related` from no marks tells both. `self_inverse` is told beside marks too, of nodes that are known to be good
-- and so is all below them: then every root that the walk met is as good. Assumes nothing.
use mathlib.Core.Path.{◌≡◌, refl, sym, ap, ap₂, subst, ◌∙◌}
use mathlib.Core.List.{List, [], ◌∷◌, Memᴰ}
use mathlib.Core.Bool.{Bool, true, false, not, ◌&&◌, ◌||◌}
use mathlib.Core.Logic.{◌≢◌, ◌⊎◌, inl, inr, ◌↔◌}
use Prim.Native.Nat.{ℕ, zero, suc, ◌+◌, ◌≤◌, ◌<◌}
use native.Mathlib.Omega.{arith}
use native.Mathlib.Decide.{dec_lt}
use lib.Dec.{eqb}
use lib.ListN.{length, get_or, replicate, length-replicate, get_or-replicate, get_or-eq_default}
use borrow.Author.Tests.{eqb-true, eqb-false, eq-eqb, ne_eqb, not-true}
use Rattle.scope.specs.Base.{pick, all, any, from}
use Rattle.scope.specs.Types.{Ty, ty}
use Rattle.scope.specs.Kinds.{PARAM, self_dual}
use Rattle.scope.specs.Nodes.{Kind, State, Known, Unknown, InferenceFailed, Node, Root, Child, at, is_root, state_of, find, kids_of}
use Rattle.scope.specs.Unify.{occurs, self_inverse_at, self_inverse_of}
use Rattle.scope.specs.Force.{find_related}
use Rattle.scope.proofs.Laws.{find_root}
use Rattle.scope.proofs.View.{known, View, Kid, Below, one, more, Fin, fin, seen, view}
use Rattle.scope.proofs.Chain.{Chain, cnil, chain_step, fuel_out, fuel_step}
use Rattle.scope.proofs.ViewLaws.{same?, idx_eq, not_known, below_join}
use Rattle.scope.proofs.TestLaws.{tf, same_bool}
use Rattle.scope.proofs.Free.{free, free_nil}
use Rattle.scope.proofs.Grow.{ri, Self, self}
use Rattle.scope.proofs.Occurs.{param_dual}
use Rattle.scope.proofs.Marks.{Walkable, Reached, start, next, reached_off, kid_of, kid_in, root_top, mem_from, Marked, related_marked}

-- itself, or in what its kind holds
abbrev pub Reach : View → ℕ → ℕ → Type 0
Reach g r i = (r ≡ i) ⊎ Below g r i

kid_reach : {g : View} {a y i : ℕ} → Kid g a y → Reach g y i → Below g a i
kid_reach {g} {a} k (inl e) = subst (Below g a) e (one k)
kid_reach k (inr b) = more k b

reached_reach : {ns : List Node} {ms : List ℕ} {r i : ℕ} → Reached ns ms r i → Reach (view ns) r i
reached_reach (start e) = inl refl
reached_reach {ns} {ms} {r} (next {a = a} {x = x} h k e) = inr (go (reached_reach h))
  where
    go : Reach (view ns) r a → Below (view ns) r x
    go (inl q) = subst (λ (b : ℕ). Below (view ns) b x) (sym q) (one k)
    go (inr b) = below_join b (one k)

-- no root is marked
pub record Clear (ns : List Node) (ms : List ℕ) : Type 0 where
  pub room : length ns ≤ length ms
  pub none : (i : ℕ) → i < length ns → get_or ms i 0 ≡ 0

pub clear_zeros : (ns : List Node) (m : ℕ) → length ns ≤ m → Clear ns (replicate m 0)
clear_zeros ns m l = record { room = omega (arith, length-replicate {A = ℕ} m 0); none = λ i h. get_or-replicate m i 0 0 (omega arith) }

module _ {ns : List Node} (w : Walkable ns) where
  child_inside : (a : ℕ) (c : Ty) → Memᴰ c (kids_of (state_of (at ns a))) → (find ns c).idx < length ns
  child_inside a c m = w.inside c (w.kids a c m)

  kid_inside : {a x : ℕ} → Kid (view ns) a x → x < length ns
  kid_inside {a} k = let c = kid_in ns k in rw (← c.2) (child_inside a c.0 c.1)

  below_inside : {a i : ℕ} → Below (view ns) a i → i < length ns
  below_inside (one k) = kid_inside k
  below_inside (more k b) = below_inside b

  below_reached : {ms : List ℕ} {r a i : ℕ} → Clear ns ms → Reached ns ms r a → Below (view ns) a i → Reached ns ms r i
  below_reached z h (one {x = x} k) = next h k (z.none x (kid_inside k))
  below_reached z h (more {y = y} k b) = below_reached z (next h k (z.none y (kid_inside k))) b

  -- with no marks at first, what the type leads to
  pub related_clear : {ms : List ℕ} → Clear ns ms → (t : Ty) → t.idx < length ns → (i : ℕ) → i < length ns
      → (get_or (find_related ns t ms) i 0 ≢ 0) ↔ Reach (view ns) (find ns t).idx i
  related_clear {ms} z t h i hi = (λ q. out ((k.marks i).0 q), λ r. (k.marks i).1 (inr (into r)))
    where
      k : Marked ns (find ns t).idx ms (find_related ns t ms)
      k = related_marked w ms t z.room h

      out : (get_or ms i 0 ≢ 0) ⊎ Reached ns ms (find ns t).idx i → Reach (view ns) (find ns t).idx i
      out (inl q) = absurd (q (z.none i hi))
      out (inr r) = reached_reach r

      first : Reached ns ms (find ns t).idx (find ns t).idx
      first = start (z.none (find ns t).idx (w.inside t h))

      into : Reach (view ns) (find ns t).idx i → Reached ns ms (find ns t).idx i
      into (inl e) = subst (Reached ns ms (find ns t).idx) e first
      into (inr b) = below_reached z first b

any_yes : (p : Ty → Bool) (xs : List Ty) → any p xs ≡ true → (x : Ty) × Memᴰ x xs × (p x ≡ true)
any_yes p [] e = tf (sym e)
any_yes p (y ∷ ys) e = go (p y) refl e (any_yes p ys)
  where
    go : (b : Bool) → p y ≡ b → (b || any p ys) ≡ true → (any p ys ≡ true → (x : Ty) × Memᴰ x ys × (p x ≡ true)) → (x : Ty) × Memᴰ x (y ∷ ys) × (p x ≡ true)
    go true q r ih = (y, Memᴰ.head refl, q)
    go false q r ih = let z = ih r in (z.0, Memᴰ.tail z.1, z.2)

or-true : (a b : Bool) → b ≡ true → (a || b) ≡ true
or-true true b e = refl
or-true false b e = e

any_true : (p : Ty → Bool) {x : Ty} {xs : List Ty} → Memᴰ x xs → p x ≡ true → any p xs ≡ true
any_true p (Memᴰ.head {x = y} {xs = ys} e) q = rw (ap p (sym e) ∙ q) refl
any_true p (Memᴰ.tail {x = y} {xs = ys} m) q = or-true (p y) (any p ys) (any_true p m q)

and_left : (a b : Bool) → (a && b) ≡ true → a ≡ true
and_left true b e = refl
and_left false b e = e

and_right : (a b : Bool) → (a && b) ≡ true → b ≡ true
and_right true b e = e
and_right false b e = tf (sym e)

from_mem : (i n : ℕ) {j : ℕ} → Memᴰ j (from i n) → j < i + n
from_mem i zero m = elim m [ ]
from_mem i (suc n) (Memᴰ.head e) = omega arith
from_mem i (suc n) (Memᴰ.tail m) = omega (arith, from_mem (suc i) n m)

module _ {A : Type 0} (p : A → Bool) where
  all_yes : {x : A} {xs : List A} → Memᴰ x xs → all p xs ≡ true → p x ≡ true
  all_yes (Memᴰ.head {x = y} {xs = ys} q) e = ap p q ∙ and_left (p y) (all p ys) e
  all_yes (Memᴰ.tail {x = y} {xs = ys} m) e = all_yes m (and_right (p y) (all p ys) e)

  all_true : (xs : List A) → ((x : A) → Memᴰ x xs → p x ≡ true) → all p xs ≡ true
  all_true [] h = refl
  all_true (x ∷ xs) h = ap₂ ◌&&◌ (h x (Memᴰ.head refl)) (all_true xs (λ y m. h y (Memᴰ.tail m)))

-- a root's type is where it leads
pub root_find : (ns : List Node) (t : Ty) → is_root (at ns t.idx) ≡ true → (find ns t).idx ≡ t.idx
root_find ns t e = go (at ns t.idx) refl e
  where
    go : (x : Node) → at ns t.idx ≡ x → is_root x ≡ true → (find ns t).idx ≡ t.idx
    go (Root st z) p q = ap (λ (u : Ty). u.idx) (find_root ns t st z p)
    go (Child u) p q = tf (sym q)

-- `occurs`: at any depth true of what is contained
reach_occurs : (f : ℕ) (ns : List Node) {x y : ℕ} → Reach (view ns) y x → occurs f ns x y ≡ true
unfolding occurs
reach_occurs zero ns r = refl
reach_occurs (suc f) ns {x} {y} (inl e) = rw (eq-eqb y x e) refl
reach_occurs (suc f) ns {x} {y} (inr (one k)) =
    let c = kid_in ns k in
    or-true (eqb y x) _ (any_true (λ c. occurs f ns x (find ns c).idx) c.1 (reach_occurs f ns (inl c.2)))
reach_occurs (suc f) ns {x} {y} (inr (more k b)) =
    let c = kid_in ns k in
    or-true (eqb y x) _ (any_true (λ c. occurs f ns x (find ns c).idx) c.1 (reach_occurs f ns (inr (rw c.2 b))))

module _ {ns : List Node} (w : Walkable ns) where
  -- and with depth enough only of that
  occurs_reach : (f x y : ℕ) (ls : List ℕ) → (view ns).rep y ≡ ty false y → y < length ns → Chain (view ns) y ls → free (length ns) ls ≤ f
      → occurs f ns x y ≡ true → Reach (view ns) y x
  unfolding occurs
  occurs_reach zero x y ls t h c q e = absurd (fuel_out w.good c h q)
  occurs_reach (suc f) x y ls t h c q e = go (eqb y x) refl e (λ z zs tz hz cz qz ez. occurs_reach f x z zs tz hz cz qz ez)
    where
      p : Ty → Bool
      p c = occurs f ns x (find ns c).idx

      Ih : Type 0
      Ih = (z : ℕ) (zs : List ℕ) → (view ns).rep z ≡ ty false z → z < length ns → Chain (view ns) z zs → free (length ns) zs ≤ f → occurs f ns x z ≡ true → Reach (view ns) z x

      go : (b : Bool) → eqb y x ≡ b → (b || any p (kids_of (state_of (at ns y)))) ≡ true → Ih → Reach (view ns) y x
      go true s r ih = inl (eqb-true y x s)
      go false s r ih =
          let z = any_yes p (kids_of (state_of (at ns y))) r in
          let k : Kid (view ns) y (find ns z.0).idx = kid_of ns y z.0 t z.1 in
          inr (kid_reach k (ih (find ns z.0).idx (y ∷ ls) (root_top ns w z.0) (child_inside w y z.0 z.1) (chain_step k c) (fuel_step w.good c h q) z.2))

  top_at : (t : Ty) → is_root (at ns t.idx) ≡ true → (view ns).rep t.idx ≡ ty false t.idx
  top_at t e = rw (root_find ns t e) at (root_top ns w t)

  -- is x the root, or in what its kind holds?
  pub occurs_marks : {ms : List ℕ} → Clear ns ms → (x : ℕ) (t : Ty) → x < length ns → t.idx < length ns → is_root (at ns t.idx) ≡ true
      → occurs (length ns) ns x t.idx ≡ not (eqb (get_or (find_related ns t ms) x 0) 0)
  occurs_marks {ms} z x t hx h e = same_bool (occurs (length ns) ns x t.idx) (not (eqb mark 0))
      (λ o. ap not (ne_eqb mark 0 (r.1 (occurs_reach (length ns) x t.idx [] (top_at t e) h cnil (free_nil (length ns)) o))))
      (λ o. reach_occurs (length ns) ns (r.0 (eqb-false mark 0 (not-true (eqb mark 0) o))))
    where
      mark : ℕ
      mark = get_or (find_related ns t ms) x 0

      r : (mark ≢ 0) ↔ Reach (view ns) t.idx x
      r = rw (root_find ns t e) at (related_clear w z t h x hx)

-- a state that lets a type be its own inverse, children apart
abbrev pub good : Bool → State → Bool
good param (Known i k) = pick (eqb k.head.code PARAM) param (self_dual k.head)
good param (Unknown p) = false
good param InferenceFailed = false

-- all that a node's root leads to does
abbrev pub GoodBelow : Bool → List Node → ℕ → Type 0
GoodBelow param ns i = (j : ℕ) → Reach (view ns) ((view ns).rep i).idx j → good param (state_of (at ns j)) ≡ true

-- marks before a walk, which writes 1: none is 1, and what is marked is known to be good
pub record Told (param : Bool) (ns : List Node) (ms : List ℕ) : Type 0 where
  pub room : length ns ≤ length ms
  pub old : (i : ℕ) → get_or ms i 0 ≢ 1
  pub good : (i : ℕ) → get_or ms i 0 ≢ 0 → GoodBelow param ns i

-- a node that the walk did not mark, or one with a good state
abbrev pub new_good : Bool → List Node → List ℕ → ℕ → Bool
new_good param ns ms i = not (eqb (get_or ms i 0) 1) || good param (state_of (at ns i))

module _ {ns : List Node} (w : Walkable ns) (param : Bool) where
  self_step : (f a : ℕ) → self_inverse_at param (suc f) ns a
      ≡ (good param (state_of (at ns a)) && all (λ c. self_inverse_at param f ns (find ns c).idx) (kids_of (state_of (at ns a))))
  unfolding self_inverse_at
  self_step f a = go (state_of (at ns a)) refl
    where
      p : Ty → Bool
      p c = self_inverse_at param f ns (find ns c).idx

      and-true : (b : Bool) → b ≡ (b && true)
      and-true true = refl
      and-true false = refl

      go : (s : State) → state_of (at ns a) ≡ s → self_inverse_at param (suc f) ns a ≡ (good param s && all p (kids_of s))
      go (Known i k) e = rw (e, self_inverse_at) (at_code (eqb k.head.code PARAM) refl)
        where
          at_code : (b : Bool) → eqb k.head.code PARAM ≡ b → pick b param (self_dual k.head && all p k.kids) ≡ (pick b param (self_dual k.head) && all p k.kids)
          at_code true q = rw (w.params a i k e (eqb-true k.head.code PARAM q)) (and-true param)
          at_code false q = refl
      go (Unknown q) e = rw (e, self_inverse_at)
      go InferenceFailed e = rw (e, self_inverse_at)

  self_good : (f a : ℕ) → self_inverse_at param f ns a ≡ true → (i : ℕ) → Reach (view ns) a i → good param (state_of (at ns i)) ≡ true
  unfolding self_inverse_at
  self_good zero a e i r = tf (sym e)
  self_good (suc f) a e i r = go r (λ z ez q. self_good f z ez i q)
    where
      p : Ty → Bool
      p c = self_inverse_at param f ns (find ns c).idx

      parts : (good param (state_of (at ns a)) && all p (kids_of (state_of (at ns a)))) ≡ true
      parts = sym (self_step f a) ∙ e

      under : {y : ℕ} → Kid (view ns) a y → self_inverse_at param f ns y ≡ true
      under k = let c = kid_in ns k in
          rw (← c.2) (all_yes p c.1 (and_right (good param (state_of (at ns a))) (all p (kids_of (state_of (at ns a)))) parts))

      go : Reach (view ns) a i → ((z : ℕ) → self_inverse_at param f ns z ≡ true → Reach (view ns) z i → good param (state_of (at ns i)) ≡ true) → good param (state_of (at ns i)) ≡ true
      go (inl q) ih = rw (← q) (and_left (good param (state_of (at ns a))) (all p (kids_of (state_of (at ns a)))) parts)
      go (inr (one k)) ih = ih i (under k) (inl refl)
      go (inr (more {y = y} k b)) ih = ih y (under k) (inr b)

  good_self : (f a : ℕ) (ls : List ℕ) → (view ns).rep a ≡ ty false a → a < length ns → Chain (view ns) a ls → free (length ns) ls ≤ f
      → ((i : ℕ) → Reach (view ns) a i → good param (state_of (at ns i)) ≡ true) → self_inverse_at param f ns a ≡ true
  good_self zero a ls t h c q g = absurd (fuel_out w.good c h q)
  good_self (suc f) a ls t h c q g = self_step f a ∙ ap₂ ◌&&◌ (g a (inl refl)) (all_true (λ c. self_inverse_at param f ns (find ns c).idx) (kids_of (state_of (at ns a)))
      (λ x m. let k = kid_of ns a x t m in
      good_self f (find ns x).idx (a ∷ ls) (root_top ns w x) (child_inside w a x m) (chain_step k c) (fuel_step w.good c h q) (λ i r. g i (inr (kid_reach k r)))))

  module _ {ms : List ℕ} (k : Told param ns ms) (t : Ty) (h : t.idx < length ns) where
    abbrev root : ℕ
    root = (find ns t).idx

    abbrev after : List ℕ
    after = find_related ns t ms

    abbrev passed : Bool
    passed = all (new_good param ns (find_related ns t ms)) (from 0 (length ns))

    met : Marked ns root ms after
    met = related_marked w ms t k.room h

    reached_top : {a : ℕ} → Reached ns ms root a → (view ns).rep a ≡ ty false a
    reached_top (start e) = root_top ns w t
    reached_top (next r c e) = subst (λ (x : ℕ). (view ns).rep x ≡ ty false x) c.to (w.good.idem c.kid.idx)

    reached_inside : {a : ℕ} → Reached ns ms root a → a < length ns
    reached_inside (start e) = w.inside t h
    reached_inside (next r c e) = kid_inside w c

    -- a root that the walk met was tested
    tested_good : {a : ℕ} → passed ≡ true → Reached ns ms root a → good param (state_of (at ns a)) ≡ true
    tested_good {a} p r =
        let e : get_or after a 0 ≡ 1 = met.ones a (reached_off r) ((met.marks a).1 (inr r)) in
        let q : new_good param ns after a ≡ true = all_yes (new_good param ns after) (mem_from 0 (length ns) a (omega arith) (omega (arith, reached_inside r))) p in
        sym (ap (λ (b : Bool). not b || good param (state_of (at ns a))) (eq-eqb (get_or after a 0) 1 e)) ∙ q

    -- and so is all below it: each child's root was met, or is known
    reached_good : {a j : ℕ} → passed ≡ true → Reached ns ms root a → Reach (view ns) a j → good param (state_of (at ns j)) ≡ true
    reached_good p r (inl e) = subst (λ (x : ℕ). good param (state_of (at ns x)) ≡ true) e (tested_good p r)
    reached_good {j = j} p r (inr (one {x = x} c)) = go (same? (get_or ms x 0) 0)
      where
        go : (get_or ms x 0 ≡ 0) ⊎ (get_or ms x 0 ≢ 0) → good param (state_of (at ns x)) ≡ true
        go (inl e) = tested_good p (next r c e)
        go (inr o) = k.good x o x (inl (idx_eq (subst (λ (y : ℕ). (view ns).rep y ≡ ty false y) c.to (w.good.idem c.kid.idx))))
    reached_good {j = j} p r (inr (more {y = y} c b)) = go (same? (get_or ms y 0) 0) (λ e. reached_good p (next r c e) (inr b))
      where
        go : (get_or ms y 0 ≡ 0) ⊎ (get_or ms y 0 ≢ 0) → (get_or ms y 0 ≡ 0 → good param (state_of (at ns j)) ≡ true) → good param (state_of (at ns j)) ≡ true
        go (inl e) ih = ih e
        go (inr o) ih =
            let q : ((view ns).rep y).idx ≡ y = idx_eq (subst (λ (z : ℕ). (view ns).rep z ≡ ty false z) c.to (w.good.idem c.kid.idx)) in
            k.good y o j (inr (subst (λ (z : ℕ). Below (view ns) z j) (sym q) b))

    pub beside_good : passed ≡ true → (i : ℕ) → get_or (find_related ns t ms) i 0 ≢ 0 → GoodBelow param ns i
    beside_good p i o = go ((met.marks i).0 o)
      where
        go : (get_or ms i 0 ≢ 0) ⊎ Reached ns ms root i → GoodBelow param ns i
        go (inl q) = k.good i q
        go (inr r) = λ j q. reached_good p r (subst (λ (x : ℕ). Reach (view ns) x j) (idx_eq (reached_top r)) q)

    -- `self_inverse`: every root that the walk met has a good state
    pub self_beside : self_inverse_of ns t param ≡ all (new_good param ns (find_related ns t ms)) (from 0 (length ns))
    unfolding self_inverse_of
    self_beside = same_bool (self_inverse_at param (length ns) ns root) passed
        (λ e. all_true (new_good param ns after) (from 0 (length ns)) (λ i m. each e i (same? (get_or after i 0) 1)))
        (λ p. good_self (length ns) root [] (root_top ns w t) (w.inside t h) cnil (free_nil (length ns)) (λ i q. below p i q (same? (get_or ms root 0) 0)))
      where
        led : (i : ℕ) → get_or after i 0 ≡ 1 → (get_or ms i 0 ≢ 0) ⊎ Reached ns ms root i → Reach (view ns) root i
        led i e (inl o) = absurd (k.old i (sym (met.keep i o) ∙ e))
        led i e (inr r) = reached_reach r

        each : self_inverse_at param (length ns) ns root ≡ true → (i : ℕ) → (get_or after i 0 ≡ 1) ⊎ (get_or after i 0 ≢ 1) → new_good param ns after i ≡ true
        each e i (inl q) =
            or-true (not (eqb (get_or after i 0) 1)) (good param (state_of (at ns i)))
            (self_good (length ns) root e i (led i q ((met.marks i).0 (λ z. omega (arith, q, z)))))
        each e i (inr q) = ap (λ (b : Bool). not b || good param (state_of (at ns i))) (ne_eqb (get_or after i 0) 1 q)

        below : passed ≡ true → (i : ℕ) → Reach (view ns) root i → (get_or ms root 0 ≡ 0) ⊎ (get_or ms root 0 ≢ 0) → good param (state_of (at ns i)) ≡ true
        below p i q (inl e) = reached_good p (start e) q
        below p i q (inr o) = k.good root o i (subst (λ (x : ℕ). Reach (view ns) x i) (sym (idx_eq (root_top ns w t))) q)

-- no marks at all
pub none_marked : (m i : ℕ) → ◌≡◌ {A = ℕ} (get_or (replicate m 0) i 0) 0
none_marked m i = go (dec_lt i m)
  where
    go : Dec (i < m) → ◌≡◌ {A = ℕ} (get_or (replicate m 0) i 0) 0
    go (yes h) = get_or-replicate m i 0 0 h
    go (no h) = get_or-eq_default (replicate m 0) 0 {n = i} (omega (arith, length-replicate {A = ℕ} m 0))

pub told_clear : (param : Bool) (ns : List Node) (m : ℕ) → length ns ≤ m → Told param ns (replicate m 0)
told_clear param ns m l = record {
  room = omega (arith, length-replicate {A = ℕ} m 0);
  old = λ i e. omega (arith, e, none_marked m i);
  good = λ i o. absurd (o (none_marked m i));
}

-- a root that is its own inverse by its kinds, as `unify` knows it, is one that is good and so is all below it

self_state : (ns : List Node) (a : ℕ) (i : Bool) (k : Kind) → (view ns).st a ≡ known i k → self_dual k.head ≡ true → good false (state_of (at ns a)) ≡ true
unfolding view
self_state ns a i k s d = go (state_of (at ns a)) s
  where
    by_code : (b : Bool) → eqb k.head.code PARAM ≡ b → pick b false (self_dual k.head) ≡ true
    by_code true e = tf (sym d ∙ param_dual k.head (eqb-true k.head.code PARAM e))
    by_code false e = d

    go : (v : State) → seen v ≡ known i k → good false v ≡ true
    go (Known j m) e = let q : m ≡ k = cc in rw q (by_code (eqb k.head.code PARAM) refl)
    go (Unknown p) e = absurd (not_known e)
    go InferenceFailed e = absurd (not_known e)

kid_mem : {g : View} {a x : ℕ} {i : Bool} {k : Kind} → g.st a ≡ known i k → (c : Kid g a x) → Memᴰ c.kid k.kids
kid_mem {g} {a} {k = k} s c = let q : known c.inv c.kind ≡ known _ k = sym c.state ∙ s in let e : c.kind ≡ k = cc in rw (← e) c.mem

state_self : (ns : List Node) (a : ℕ) → (view ns).rep a ≡ ty false a → good false (state_of (at ns a)) ≡ true → ((x : ℕ) → Kid (view ns) a x → Self (view ns) x)
    → Self (view ns) a
unfolding view
state_self ns a t p ih = go (state_of (at ns a)) refl p
  where
    dual : (b : Bool) (h : Bool) → pick b false h ≡ true → h ≡ true
    dual true h e = tf (sym e)
    dual false h e = e

    go : (v : State) → state_of (at ns a) ≡ v → good false v ≡ true → Self (view ns) a
    go (Known i k) e g =
        self i k (ap seen e) (dual (eqb k.head.code PARAM) (self_dual k.head) g)
        (λ x m. ih (ri (view ns) x) (record { inv = i; kind = k; kid = x; top = t; state = ap seen e; mem = m; to = refl }))
    go (Unknown q) e g = tf (sym g)
    go InferenceFailed e g = tf (sym g)

pub self_below : (ns : List Node) {a j : ℕ} → Self (view ns) a → Reach (view ns) a j → good false (state_of (at ns j)) ≡ true
self_below ns {a} (self i k s d f) (inl e) = subst (λ (x : ℕ). good false (state_of (at ns x)) ≡ true) e (self_state ns a i k s d)
self_below ns (self i k s d f) (inr (one c)) = self_below ns (f c.kid (kid_mem s c)) (inl c.to)
self_below ns {j = j} (self i k s d f) (inr (more c b)) =
    self_below ns (f c.kid (kid_mem s c)) (inr (subst (λ (x : ℕ). Below (view ns) x j) (sym c.to) b))

module _ {ns : List Node} (w : Walkable ns) where
  fin_self : {a : ℕ} → Fin (view ns) a → (view ns).rep a ≡ ty false a → ((j : ℕ) → Reach (view ns) a j → good false (state_of (at ns j)) ≡ true) → Self (view ns) a
  fin_self {a} (fin f) t q =
      state_self ns a t (q a (inl refl))
      (λ x c. fin_self (f x c) (subst (λ (y : ℕ). (view ns).rep y ≡ ty false y) c.to (w.good.idem c.kid.idx)) (λ j r. q j (inr (kid_reach c r))))

  pub below_self : (i : ℕ) → GoodBelow false ns i → Self (view ns) ((view ns).rep i).idx
  below_self i q = fin_self (w.good.wf ((view ns).rep i).idx) (w.good.idem i) q
