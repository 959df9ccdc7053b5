-- The walk of `find_related`: it marks exactly the roots that unmarked roots lead to, and a depth of as many steps as there are unmarked roots
-- is enough. Assumes nothing.
use mathlib.Core.Path.{◌≡◌, refl, sym, ap, ◌∙◌}
use mathlib.Core.List.{List, [], ◌∷◌, Memᴰ}
use mathlib.Core.Bool.{Bool, true, false, ◌&&◌}
use mathlib.Core.Logic.{◌≢◌, ◌⊎◌, inl, inr, ◌↔◌}
use Prim.Native.Nat.{ℕ, zero, suc, ◌+◌, ◌≤◌, ◌<◌}
use native.Mathlib.Omega.{arith}
use lib.Dec.{eqb}
use lib.ListN.{length, get_or, set, length-set}
use lib.Seq.{get_or-set_same, get_or-set_other, ext_get_or}
use borrow.Author.Tests.{eqb-true, eq-eqb, ne_eqb}
use Rattle.scope.specs.Base.{pick, count, from}
use Rattle.scope.specs.Types.{Ty, ty, flip}
use Rattle.scope.specs.Kinds.{PARAM}
use Rattle.scope.specs.Nodes.{Kind, State, Known, Unknown, InferenceFailed, Node, Root, Child, at, is_root, state_of, climb, find, state_at, kids_of}
use Rattle.scope.specs.Force.{related_kids, related_root, related_f, find_related}
use Rattle.scope.proofs.Laws.{climb_root, climb_child}
use Rattle.scope.proofs.View.{known, Kid, Good, seen, view}
use Rattle.scope.proofs.ViewLaws.{same?, not_known}
use Rattle.scope.proofs.TestLaws.{count_le, count_lt}

-- what the walk uses of a sound store's nodes
pub record Walkable (ns : List Node) : Type 0 where
  pub good : Good (view ns)
  pub inside : (t : Ty) → t.idx < length ns → (find ns t).idx < length ns
  pub tops : (t : Ty) → t.idx < length ns → is_root (at ns (find ns t).idx) ≡ true
  pub kids : (a : ℕ) (c : Ty) → Memᴰ c (kids_of (state_of (at ns a))) → c.idx < length ns
  pub params : (a : ℕ) (i : Bool) (k : Kind) → state_of (at ns a) ≡ Known i k → k.head.code ≡ PARAM → k.kids ≡ []

-- reached from the root r through roots that ms leaves unmarked
pub data Reached (ns : List Node) (ms : List ℕ) (r : ℕ) : ℕ → Type 0 where
  start : get_or ms r 0 ≡ 0 → Reached ns ms r r
  next : {a x : ℕ} → Reached ns ms r a → Kid (view ns) a x → get_or ms x 0 ≡ 0 → Reached ns ms r x

-- a root that ms leaves unmarked, and how many there are
abbrev pub blank : List Node → List ℕ → ℕ → Bool
blank ns ms i = is_root (at ns i) && eqb (get_or ms i 0) 0

unfoldable pub unmarked : List Node → List ℕ → ℕ
unmarked ns ms = count (blank ns ms) (from 0 (length ns))

-- what a walk from r makes of ms
pub record Marked (ns : List Node) (r : ℕ) (ms ms' : List ℕ) : Type 0 where
  pub size : length ms' ≡ length ms
  pub keep : (i : ℕ) → get_or ms i 0 ≢ 0 → get_or ms' i 0 ≡ get_or ms i 0
  pub ones : (i : ℕ) → get_or ms i 0 ≡ 0 → get_or ms' i 0 ≢ 0 → get_or ms' i 0 ≡ 1
  pub marks : (i : ℕ) → (get_or ms' i 0 ≢ 0) ↔ ((get_or ms i 0 ≢ 0) ⊎ Reached ns ms r i)

-- the inversion of a type has no part in where it leads
climb_idx : (f : ℕ) (ns : List Node) (t u : Ty) → t.idx ≡ u.idx → (climb f ns t).idx ≡ (climb f ns u).idx
unfolding climb
climb_idx zero ns t u e = e
climb_idx (suc f) ns t u e = go (at ns u.idx) (ap (at ns) e) refl (λ v w q. climb_idx f ns v w q)
  where
    go : (x : Node) → at ns t.idx ≡ x → at ns u.idx ≡ x → ((v w : Ty) → v.idx ≡ w.idx → (climb f ns v).idx ≡ (climb f ns w).idx)
        → (climb (suc f) ns t).idx ≡ (climb (suc f) ns u).idx
    go (Root st z) p q ih = rw (climb_root (suc f) ns t p, climb_root (suc f) ns u q) e
    go (Child v) p q ih = rw (climb_child f ns t v p, climb_child f ns u v q) (ih (flip t.inv v) (flip u.inv v) refl)

rep_idx : (ns : List Node) (t : Ty) → ((view ns).rep t.idx).idx ≡ (find ns t).idx
unfolding view find
rep_idx ns t = climb_idx (length ns) ns (ty false t.idx) t refl

-- a child as the nodes have it is one as the view has it, and back
pub kid_of : (ns : List Node) (a : ℕ) (c : Ty) → (view ns).rep a ≡ ty false a → Memᴰ c (kids_of (state_of (at ns a))) → Kid (view ns) a (find ns c).idx
unfolding view
kid_of ns a c top m = go (state_of (at ns a)) refl m
  where
    go : (s : State) → state_of (at ns a) ≡ s → Memᴰ c (kids_of s) → Kid (view ns) a (find ns c).idx
    go (Known i k) e m = record { inv = i; kind = k; kid = c; top = top; state = ap seen e; mem = m; to = rep_idx ns c }
    go (Unknown p) e m = elim m [ ]
    go InferenceFailed e m = elim m [ ]

pub kid_in : (ns : List Node) {a x : ℕ} → Kid (view ns) a x → (c : Ty) × Memᴰ c (kids_of (state_of (at ns a))) × ((find ns c).idx ≡ x)
unfolding view
kid_in ns {a} {x} k = (k.kid, go (state_of (at ns a)) k.state, sym (rep_idx ns k.kid) ∙ k.to)
  where
    go : (s : State) → seen s ≡ known k.inv k.kind → Memᴰ k.kid (kids_of s)
    go (Known i m) e = let q : m ≡ k.kind = cc in rw q k.mem
    go (Unknown p) e = absurd (not_known e)
    go InferenceFailed e = absurd (not_known e)

-- counting
count_top : (p : ℕ → Bool) (i n : ℕ) → count p (from i n) ≤ n
count_top p i zero = omega arith
count_top p i (suc n) = go (p i) (count_top p (suc i) n)
  where
    go : (b : Bool) → count p (from (suc i) n) ≤ n → pick b 1 0 + count p (from (suc i) n) ≤ suc n
    go true h = omega arith
    go false h = omega arith

pub mem_from : (i n j : ℕ) → i ≤ j → j < i + n → Memᴰ j (from i n)
mem_from i zero j h g = absurd (omega arith)
mem_from i (suc n) j h g = go (same? j i) (λ q. mem_from (suc i) n j q (omega arith))
  where
    go : (j ≡ i) ⊎ (j ≢ i) → (suc i ≤ j → Memᴰ j (from (suc i) n)) → Memᴰ j (from i (suc n))
    go (inl e) ih = Memᴰ.head e
    go (inr e) ih = Memᴰ.tail (ih (omega arith))

unmarked_top : (ns : List Node) (ms : List ℕ) → unmarked ns ms ≤ length ns
unfolding unmarked
unmarked_top ns ms = count_top (blank ns ms) 0 (length ns)

-- marks are set, and never taken back
record Grown (ms ms' : List ℕ) : Type 0 where
  size : length ms' ≡ length ms
  keep : (i : ℕ) → get_or ms i 0 ≢ 0 → get_or ms' i 0 ≡ get_or ms i 0
  ones : (i : ℕ) → get_or ms i 0 ≡ 0 → get_or ms' i 0 ≢ 0 → get_or ms' i 0 ≡ 1

grown_refl : {ms : List ℕ} → Grown ms ms
grown_refl = record { size = refl; keep = λ i h. refl; ones = λ i e h. absurd (h e) }

grown_trans : {xs ys zs : List ℕ} → Grown xs ys → Grown ys zs → Grown xs zs
grown_trans {xs} {ys} {zs} p q = record {
  size = q.size ∙ p.size;
  keep = λ i h. let e = p.keep i h in q.keep i (λ z. h (sym e ∙ z)) ∙ e;
  ones = λ i e h. go i e h (same? (get_or ys i 0) 0);
}
  where
    go : (i : ℕ) → get_or xs i 0 ≡ 0 → get_or zs i 0 ≢ 0 → (get_or ys i 0 ≡ 0) ⊎ (get_or ys i 0 ≢ 0) → get_or zs i 0 ≡ 1
    go i e h (inl z) = q.ones i z h
    go i e h (inr z) = q.keep i z ∙ p.ones i e z

-- what was marked is, and what is not marked was not
grown_on : {ms ms' : List ℕ} → Grown ms ms' → (i : ℕ) → get_or ms i 0 ≢ 0 → get_or ms' i 0 ≢ 0
grown_on g i h z = h (sym (g.keep i h) ∙ z)

grown_off : {ms ms' : List ℕ} → Grown ms ms' → (i : ℕ) → get_or ms' i 0 ≡ 0 → get_or ms i 0 ≡ 0
grown_off {ms} g i z = elim (same? (get_or ms i 0) 0) [ inl e ↦ e | inr h ↦ absurd (grown_on g i h z) ]

grown_set : (ms : List ℕ) (r : ℕ) → r < length ms → get_or ms r 0 ≡ 0 → Grown ms (set ms r 1)
grown_set ms r h e = record {
  size = length-set ms r 1;
  keep = λ i q. get_or-set_other ms r i 1 0 (λ z. q (ap (λ (j : ℕ). get_or ms j 0) z ∙ e));
  ones = λ i z q. go i z q (same? i r);
}
  where
    go : (i : ℕ) → get_or ms i 0 ≡ 0 → get_or (set ms r 1) i 0 ≢ 0 → (i ≡ r) ⊎ (i ≢ r) → get_or (set ms r 1) i 0 ≡ 1
    go i z q (inl s) = rw s (get_or-set_same ms r 1 0 h)
    go i z q (inr s) = absurd (q (get_or-set_other ms r i 1 0 s ∙ z))

blank_grown : (ns : List Node) {ms ms' : List ℕ} → Grown ms ms' → (i : ℕ) → blank ns ms' i ≡ true → blank ns ms i ≡ true
blank_grown ns {ms} {ms'} g i = go (is_root (at ns i))
  where
    go : (b : Bool) → (b && eqb (get_or ms' i 0) 0) ≡ true → (b && eqb (get_or ms i 0) 0) ≡ true
    go true e = eq-eqb (get_or ms i 0) 0 (grown_off g i (eqb-true (get_or ms' i 0) 0 e))
    go false e = e

unmarked_grown : (ns : List Node) {ms ms' : List ℕ} → Grown ms ms' → unmarked ns ms' ≤ unmarked ns ms
unfolding unmarked
unmarked_grown ns {ms} {ms'} g = count_le (blank ns ms') (blank ns ms) (blank_grown ns g) (from 0 (length ns))

unmarked_set : (ns : List Node) (ms : List ℕ) (r : ℕ) → r < length ns → r < length ms → is_root (at ns r) ≡ true → get_or ms r 0 ≡ 0
    → unmarked ns (set ms r 1) < unmarked ns ms
unfolding unmarked
unmarked_set ns ms r hn hm t e =
    count_lt (blank ns (set ms r 1)) (blank ns ms) (blank_grown ns (grown_set ms r hm e)) (from 0 (length ns)) (mem_from 0 (length ns) r (omega arith) (omega arith))
    (rw (t, get_or-set_same ms r 1 0 hm) refl) (rw (t, e) refl)

reached_less : {ns : List Node} {ms ms' : List ℕ} {r i : ℕ} → Grown ms ms' → Reached ns ms' r i → Reached ns ms r i
reached_less {r = r} g (start e) = start (grown_off g r e)
reached_less g (next {x = x} h k e) = next (reached_less g h) k (grown_off g x e)

reached_under : {ns : List Node} {ms : List ℕ} {r y i : ℕ} → get_or ms r 0 ≡ 0 → Kid (view ns) r y → Reached ns ms y i → Reached ns ms r i
reached_under z k (start e) = next (start z) k e
reached_under z k (next h c e) = next (reached_under z k h) c e

pub reached_off : {ns : List Node} {ms : List ℕ} {r i : ℕ} → Reached ns ms r i → get_or ms i 0 ≡ 0
reached_off (start e) = e
reached_off (next h k e) = e

-- a walk over the types ts: they are marked, and so is every child of what was marked on the way
record Over (ns : List Node) (ms ms' : List ℕ) (ts : List Ty) : Type 0 where
  grown : Grown ms ms'
  hit : (t : Ty) → Memᴰ t ts → get_or ms' (find ns t).idx 0 ≢ 0
  closed : (a : ℕ) → get_or ms a 0 ≡ 0 → get_or ms' a 0 ≢ 0 → (c : Ty) → Memᴰ c (kids_of (state_of (at ns a))) → get_or ms' (find ns c).idx 0 ≢ 0
  only : (i : ℕ) → get_or ms i 0 ≡ 0 → get_or ms' i 0 ≢ 0 → (t : Ty) × Memᴰ t ts × Reached ns ms (find ns t).idx i

over_none : {ns : List Node} {ms : List ℕ} {ts : List Ty} → ((t : Ty) → Memᴰ t ts → get_or ms (find ns t).idx 0 ≢ 0) → Over ns ms ms ts
over_none h = record { grown = grown_refl; hit = h; closed = λ a e q. absurd (q e); only = λ i e q. absurd (q e) }

over_then : {ns : List Node} {xs ys zs : List ℕ} {t : Ty} {ts : List Ty} → Over ns xs ys (t ∷ []) → Over ns ys zs ts → Over ns xs zs (t ∷ ts)
over_then {ns} {xs} {ys} {zs} {t} {ts} p q = record {
  grown = grown_trans p.grown q.grown;
  hit = hit;
  closed = λ a e h c m. closed a e h c m (same? (get_or ys a 0) 0);
  only = λ i e h. only i e h (same? (get_or ys i 0) 0);
}
  where
    hit : (u : Ty) → Memᴰ u (t ∷ ts) → get_or zs (find ns u).idx 0 ≢ 0
    hit u (Memᴰ.head e) = grown_on q.grown (find ns u).idx (p.hit u (Memᴰ.head e))
    hit u (Memᴰ.tail m) = q.hit u m

    closed : (a : ℕ) → get_or xs a 0 ≡ 0 → get_or zs a 0 ≢ 0 → (c : Ty) → Memᴰ c (kids_of (state_of (at ns a))) → (get_or ys a 0 ≡ 0) ⊎ (get_or ys a 0 ≢ 0)
        → get_or zs (find ns c).idx 0 ≢ 0
    closed a e h c m (inl z) = q.closed a z h c m
    closed a e h c m (inr z) = grown_on q.grown (find ns c).idx (p.closed a e z c m)

    first : {u : Ty} → Memᴰ u (t ∷ []) → Memᴰ u (t ∷ ts)
    first (Memᴰ.head e) = Memᴰ.head e
    first (Memᴰ.tail m) = elim m [ ]

    only : (i : ℕ) → get_or xs i 0 ≡ 0 → get_or zs i 0 ≢ 0 → (get_or ys i 0 ≡ 0) ⊎ (get_or ys i 0 ≢ 0) → (u : Ty) × Memᴰ u (t ∷ ts) × Reached ns xs (find ns u).idx i
    only i e h (inl z) = let o = q.only i z h in (o.0, Memᴰ.tail o.1, reached_less p.grown o.2)
    only i e h (inr z) = let o = p.only i e z in (o.0, first o.1, o.2)

module _ (ns : List Node) (w : Walkable ns) where
  pub root_top : (t : Ty) → (view ns).rep (find ns t).idx ≡ ty false (find ns t).idx
  root_top t = rw (← rep_idx ns t) (w.good.idem t.idx)

  -- a root is marked, then its children are walked over
  over_root : (ms ms' : List ℕ) (t : Ty) → (find ns t).idx < length ms → get_or ms (find ns t).idx 0 ≡ 0
      → Over ns (set ms (find ns t).idx 1) ms' (kids_of (state_at ns t)) → Over ns ms ms' (t ∷ [])
  over_root ms ms' t h e o = record {
    grown = grown_trans g o.grown;
    hit = λ u m. hit u m;
    closed = λ a z q c m. closed a z q c m (same? a (find ns t).idx);
    only = λ i z q. (t, Memᴰ.head refl, only i z q (same? i (find ns t).idx));
  }
    where
      g : Grown ms (set ms (find ns t).idx 1)
      g = grown_set ms (find ns t).idx h e

      hit : (u : Ty) → Memᴰ u (t ∷ []) → get_or ms' (find ns u).idx 0 ≢ 0
      hit u (Memᴰ.head s) = rw s (grown_on o.grown (find ns t).idx (λ z. omega (arith, z, get_or-set_same ms (find ns t).idx 1 0 h)))
      hit u (Memᴰ.tail m) = elim m [ ]

      closed : (a : ℕ) → get_or ms a 0 ≡ 0 → get_or ms' a 0 ≢ 0 → (c : Ty) → Memᴰ c (kids_of (state_of (at ns a))) → (a ≡ (find ns t).idx) ⊎ (a ≢ (find ns t).idx)
          → get_or ms' (find ns c).idx 0 ≢ 0
      closed a z q c m (inl s) = o.hit c (rw s at m)
      closed a z q c m (inr s) = o.closed a (get_or-set_other ms (find ns t).idx a 1 0 s ∙ z) q c m

      only : (i : ℕ) → get_or ms i 0 ≡ 0 → get_or ms' i 0 ≢ 0 → (i ≡ (find ns t).idx) ⊎ (i ≢ (find ns t).idx) → Reached ns ms (find ns t).idx i
      only i z q (inl s) = rw s (start e)
      only i z q (inr s) =
          let k = o.only i (get_or-set_other ms (find ns t).idx i 1 0 s ∙ z) q in
          reached_under e (kid_of ns (find ns t).idx k.0 (root_top t) k.1) (reached_less g k.2)

-- one root: `related_f` one step down
pub related_step : (f : ℕ) (ns : List Node) (ms : List ℕ) (t : Ty)
    → related_f (suc f) ns ms t ≡ related_root (related_f f ns) (eqb (get_or ms (find ns t).idx 0) 0) ms (find ns t).idx (kids_of (state_at ns t))
unfolding related_f
related_step f ns ms t = refl

-- a root that was unmarked
pub related_new : (f : ℕ) (ns : List Node) (ms : List ℕ) (t : Ty) → get_or ms (find ns t).idx 0 ≡ 0
    → related_f (suc f) ns ms t ≡ related_kids (related_f f ns) (set ms (find ns t).idx 1) (kids_of (state_at ns t))
related_new f ns ms t e =
    related_step f ns ms t ∙ ap (λ (b : Bool). related_root (related_f f ns) b ms (find ns t).idx (kids_of (state_at ns t))) (eq-eqb (get_or ms (find ns t).idx 0) 0 e)

-- a root that was marked, at any depth
pub related_old : (f : ℕ) (ns : List Node) (ms : List ℕ) (t : Ty) → get_or ms (find ns t).idx 0 ≢ 0 → related_f f ns ms t ≡ ms
unfolding related_f
related_old zero ns ms t h = refl
related_old (suc f) ns ms t h = ap (λ (b : Bool). related_root (related_f f ns) b ms (find ns t).idx (kids_of (state_at ns t))) (ne_eqb (get_or ms (find ns t).idx 0) 0 h)

module _ (ns : List Node) (w : Walkable ns) where
  -- a depth that is enough for g
  abbrev Enough : ℕ → (List ℕ → Ty → List ℕ) → Type 0
  Enough f g = (ms : List ℕ) (t : Ty) → length ns ≤ length ms → unmarked ns ms ≤ f → t.idx < length ns → Over ns ms (g ms t) (t ∷ [])

  kids_over : (f : ℕ) (g : List ℕ → Ty → List ℕ) → Enough f g → (ms : List ℕ) (ts : List Ty) → length ns ≤ length ms → unmarked ns ms ≤ f
      → ((t : Ty) → Memᴰ t ts → t.idx < length ns) → Over ns ms (related_kids g ms ts) ts
  kids_over f g ih ms [] l u h = over_none (λ t m. elim m [ ])
  kids_over f g ih ms (t ∷ ts) l u h =
      let o = ih ms t l u (h t (Memᴰ.head refl)) in
      over_then o (kids_over f g ih (g ms t) ts (omega (arith, o.grown.size)) (omega (arith, unmarked_grown ns o.grown)) (λ x m. h x (Memᴰ.tail m)))

  old_over : (f : ℕ) (ms : List ℕ) (t : Ty) → get_or ms (find ns t).idx 0 ≢ 0 → Over ns ms (related_f f ns ms t) (t ∷ [])
  old_over f ms t h = rw (related_old f ns ms t h) (over_none hit)
    where
      hit : (u : Ty) → Memᴰ u (t ∷ []) → get_or ms (find ns u).idx 0 ≢ 0
      hit u (Memᴰ.head e) = rw e h
      hit u (Memᴰ.tail m) = elim m [ ]

  fewer : (ms : List ℕ) (t : Ty) → length ns ≤ length ms → t.idx < length ns → get_or ms (find ns t).idx 0 ≡ 0
      → unmarked ns (set ms (find ns t).idx 1) < unmarked ns ms
  fewer ms t l h e = unmarked_set ns ms (find ns t).idx (w.inside t h) (omega (arith, w.inside t h)) (w.tops t h) e

  related_over : (f : ℕ) → Enough f (related_f f ns)
  related_over zero ms t l u h = elim (same? (get_or ms (find ns t).idx 0) 0) [ inl e ↦ absurd (omega (arith, fewer ms t l h e)) | inr z ↦ old_over 0 ms t z ]
  related_over (suc f) ms t l u h = go (related_over f) (same? (get_or ms (find ns t).idx 0) 0)
    where
      go : Enough f (related_f f ns) → (get_or ms (find ns t).idx 0 ≡ 0) ⊎ (get_or ms (find ns t).idx 0 ≢ 0) → Over ns ms (related_f (suc f) ns ms t) (t ∷ [])
      go ih (inr z) = old_over (suc f) ms t z
      go ih (inl e) = rw (related_new f ns ms t e)
          (over_root ns w ms (related_kids (related_f f ns) (set ms (find ns t).idx 1) (kids_of (state_at ns t))) t (omega (arith, w.inside t h)) e
          (kids_over f (related_f f ns) ih (set ms (find ns t).idx 1) (kids_of (state_at ns t)) (omega (arith, length-set ms (find ns t).idx 1)) (omega (arith, fewer ms t l h e))
          (λ c m. w.kids (find ns t).idx c m)))

over_all : {ns : List Node} {ms ms' : List ℕ} {t : Ty} {i : ℕ} → Over ns ms ms' (t ∷ []) → Reached ns ms (find ns t).idx i → get_or ms' i 0 ≢ 0
over_all {t = t} o (start e) = o.hit t (Memᴰ.head refl)
over_all {ns} {ms' = ms'} o (next {a = a} h k e) = let c = kid_in ns k in rw (← c.2) (o.closed a (reached_off h) (over_all o h) c.0 c.1)

over_marked : {ns : List Node} {ms ms' : List ℕ} {t : Ty} → Over ns ms ms' (t ∷ []) → Marked ns (find ns t).idx ms ms'
over_marked {ns} {ms} {ms'} {t} o = record {
  size = o.grown.size;
  keep = o.grown.keep;
  ones = o.grown.ones;
  marks = λ i. (λ h. was i h (same? (get_or ms i 0) 0), now i);
}
  where
    from_t : (i : ℕ) → (u : Ty) × Memᴰ u (t ∷ []) × Reached ns ms (find ns u).idx i → Reached ns ms (find ns t).idx i
    from_t i (u, Memᴰ.head e, r) = rw e at r
    from_t i (u, Memᴰ.tail m, r) = elim m [ ]

    was : (i : ℕ) → get_or ms' i 0 ≢ 0 → (get_or ms i 0 ≡ 0) ⊎ (get_or ms i 0 ≢ 0) → (get_or ms i 0 ≢ 0) ⊎ Reached ns ms (find ns t).idx i
    was i h (inl e) = inr (from_t i (o.only i e h))
    was i h (inr z) = inl z

    now : (i : ℕ) → (get_or ms i 0 ≢ 0) ⊎ Reached ns ms (find ns t).idx i → get_or ms' i 0 ≢ 0
    now i (inl z) = grown_on o.grown i z
    now i (inr r) = over_all o r

-- marks that one walk leaves are what the other leaves
marked_same : {ns : List Node} {r : ℕ} {ms xs ys : List ℕ} → Marked ns r ms xs → Marked ns r ms ys → xs ≡ ys
marked_same {ns} {r} {ms} {xs} {ys} p q = ext_get_or 0 xs ys (p.size ∙ sym q.size) (λ i h. go i (same? (get_or ms i 0) 0) (same? (get_or xs i 0) 0) (same? (get_or ys i 0) 0))
  where
    go : (i : ℕ) → (get_or ms i 0 ≡ 0) ⊎ (get_or ms i 0 ≢ 0) → (get_or xs i 0 ≡ 0) ⊎ (get_or xs i 0 ≢ 0) → (get_or ys i 0 ≡ 0) ⊎ (get_or ys i 0 ≢ 0) → get_or xs i 0 ≡ get_or ys i 0
    go i (inr z) a b = p.keep i z ∙ sym (q.keep i z)
    go i (inl e) (inl a) (inl b) = a ∙ sym b
    go i (inl e) (inl a) (inr b) = absurd ((p.marks i).1 ((q.marks i).0 b) a)
    go i (inl e) (inr a) (inl b) = absurd ((q.marks i).1 ((p.marks i).0 a) b)
    go i (inl e) (inr a) (inr b) = p.ones i e a ∙ sym (q.ones i e b)

-- what `find_related` marks
module _ {ns : List Node} (w : Walkable ns) (ms : List ℕ) (t : Ty) (l : length ns ≤ length ms) (h : t.idx < length ns) where
  pub related_marked : Marked ns (find ns t).idx ms (find_related ns t ms)
  unfolding find_related
  related_marked = over_marked (related_over ns w (length ns) ms t l (unmarked_top ns ms) h)

  -- a depth of as many steps as there are unmarked roots is enough
  pub related_enough : (f : ℕ) → unmarked ns ms ≤ f → related_f f ns ms t ≡ find_related ns t ms
  related_enough f u = marked_same (over_marked (related_over ns w f ms t l u h)) related_marked

  pub related_fuel : (f : ℕ) → length ns ≤ f → related_f f ns ms t ≡ find_related ns t ms
  related_fuel f u = related_enough f (omega (arith, unmarked_top ns ms))

  -- one root, with no depth
  pub related_unfold : find_related ns t ms
      ≡ related_root (λ xs u. find_related ns u xs) (eqb (get_or ms (find ns t).idx 0) 0) ms (find ns t).idx (kids_of (state_at ns t))
  unfolding find_related
  related_unfold = sym (related_fuel (suc (length ns)) (omega arith)) ∙ related_step (length ns) ns ms t
