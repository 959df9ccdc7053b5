-- What a memory beside nodes holds: each note of the present clock says what its two roots would answer, and that they change nothing. Where nodes change the clock
-- moves, and then no note is of the present clock. Assumes nothing.
use mathlib.Core.Path.{◌≡◌, refl, sym, ap, subst, ◌∙◌}
use mathlib.Core.List.{List, [], ◌∷◌, Memᴰ}
use mathlib.Core.Bool.{Bool, true, false, ◌&&◌}
use mathlib.Core.Option.{none, some}
use Prim.Native.Nat.{ℕ, zero, suc, ◌≤◌, ◌<◌}
use native.Mathlib.Omega.{arith}
use lib.Dec.{eqb}
use borrow.Author.Tests.{eqb-true, eq-eqb}
use Rattle.scope.specs.Base.{pick}
use Rattle.scope.specs.Names.{Texts}
use Rattle.scope.specs.Types.{Ty}
use Rattle.scope.specs.Kinds.{eq_bool}
use Rattle.scope.specs.Nodes.{Node, find_mut}
use Rattle.scope.specs.Answers.{Answer}
use Rattle.scope.specs.Unify.{out, meet, unify_f}
use Rattle.scope.specs.Recall.{Note, Memory, begun, visited_at, visited, moved, changed, near, found, same_type, speaks, told, look, started, noting, noted, note}
use Rattle.scope.proofs.TestLaws.{tf, and_left, and_right, and_both, eq_bool_lem, eq_bool_same}
use Rattle.scope.proofs.Paths.{near_stays}

-- the two roots at a depth that is enough wherever they are met
pub record Recalls (x : Texts) (n : ℕ) (ns : List Node) (m : Memory) : Type 0 where
  pub past : (t : Note) → Memᴰ t m.notes → (0 < t.when) × (t.when ≤ m.clock)
  pub true : (t : Note) → Memᴰ t m.notes → t.when ≡ m.clock → meet (unify_f x n n) x n ns t.first t.second ≡ out ns t.answer

-- m' and ns' after m and ns: where a started clock is as it was, so are the nodes
pub record Since (m m' : Memory) (ns ns' : List Node) : Type 0 where
  pub on : m.clock ≤ m'.clock
  pub still : m'.clock ≡ m.clock → (m.clock ≡ 0 → ⊥) → ns' ≡ ns

pub since_same : {m : Memory} {ns : List Node} → Since m m ns ns
since_same = record { on = omega arith; still = λ e h. refl }

pub since_then : {m m₁ m₂ : Memory} {ns ns₁ ns₂ : List Node} → Since m m₁ ns ns₁ → Since m₁ m₂ ns₁ ns₂ → Since m m₂ ns ns₂
since_then {m} {m₁} {m₂} s t = record {
  on = omega (arith, s.on, t.on);
  still = λ e h.
      let f : m₂.clock ≡ m₁.clock = omega (arith, s.on, t.on) in
      let g : m₁.clock ≡ m.clock = omega (arith, s.on, t.on) in
      t.still f (λ z. h (sym g ∙ z)) ∙ s.still g h;
}

pub recalls_begun : {x : Texts} {n : ℕ} {ns : List Node} (w : ℕ) → Recalls x n ns (begun w)
recalls_begun w = record { past = λ t i. elim i [ ]; true = λ t i. elim i [ ] }

-- one visit more

visited_clock : (c l : ℕ) (ts : List Note) (v : ℕ) → c ≤ (visited_at c l ts v).clock
visited_clock zero zero ts v = omega arith
visited_clock zero (suc l) ts v = omega arith
visited_clock (suc c) l ts v = omega arith

pub visited_notes : (c l : ℕ) (ts : List Note) (v : ℕ) → (visited_at c l ts v).notes ≡ ts
visited_notes zero zero ts v = refl
visited_notes zero (suc l) ts v = refl
visited_notes (suc c) l ts v = refl

-- a clock that starts was 0
visited_started : (c l : ℕ) (ts : List Note) (v k : ℕ) → k ≤ c → 0 < k → k ≡ (visited_at c l ts v).clock → k ≡ c
visited_started zero zero ts v k h g e = absurd (omega arith)
visited_started zero (suc l) ts v k h g e = absurd (omega arith)
visited_started (suc c) l ts v k h g e = e

pub since_visited : (m : Memory) {ns : List Node} → Since m (visited m) ns ns
unfolding visited
since_visited m = record { on = visited_clock m.clock m.left m.notes m.visits; still = λ e h. refl }

pub recalls_visited : {x : Texts} {n : ℕ} {ns : List Node} (m : Memory) → Recalls x n ns m → Recalls x n ns (visited m)
unfolding visited
recalls_visited m w = record {
  past = λ t i. let h = w.past t (was t i) in (h.0, omega (arith, h.1, visited_clock m.clock m.left m.notes m.visits));
  true = λ t i e.
      let h = w.past t (was t i) in
      w.true t (was t i) (visited_started m.clock m.left m.notes m.visits t.when h.1 h.0 e);
}
  where
    was : (t : Note) → Memᴰ t (visited_at m.clock m.left m.notes m.visits).notes → Memᴰ t m.notes
    was t i = subst (Memᴰ t) (visited_notes m.clock m.left m.notes m.visits) i

-- a node changes

moved_on : (c : ℕ) → c ≤ moved c
moved_on zero = omega arith
moved_on (suc c) = omega arith

pub moved_away : (c : ℕ) → (c ≡ 0 → ⊥) → moved c ≡ suc c
moved_away zero h = absurd (h refl)
moved_away (suc c) h = refl

pub since_changed : (m : Memory) {ns ns' : List Node} → Since m (changed m) ns ns'
since_changed m = record { on = moved_on m.clock; still = λ e h. absurd (omega (arith, moved_away m.clock h, e)) }

moved_past : (c k : ℕ) → 0 < k → k ≤ c → k ≡ moved c → ⊥
moved_past zero k h g e = omega arith
moved_past (suc c) k h g e = omega arith

pub recalls_changed : {x : Texts} {n : ℕ} {ns ns' : List Node} (m : Memory) → Recalls x n ns m → Recalls x n ns' (changed m)
recalls_changed m w = record {
  past = λ t i. let h = w.past t i in (h.0, omega (arith, h.1, moved_on m.clock));
  true = λ t i e. let h = w.past t i in absurd (moved_past m.clock t.when h.0 h.1 e);
}

-- `find_mut` beside a memory
module _ (m : Memory) (ns : List Node) (t : Ty) where
  pub since_found : Since m (found m ns t) ns (find_mut ns t)
  since_found = go (near ns t) refl
    where
      go : (b : Bool) → near ns t ≡ b → Since m (pick b m (changed m)) ns (find_mut ns t)
      go true e = rw (near_stays ns t e) since_same
      go false e = since_changed m

  pub recalls_found : {x : Texts} {n : ℕ} → Recalls x n ns m → Recalls x n (find_mut ns t) (found m ns t)
  recalls_found {x} {n} w = go (near ns t) refl
    where
      go : (b : Bool) → near ns t ≡ b → Recalls x n (find_mut ns t) (pick b m (changed m))
      go true e = rw (near_stays ns t e) w
      go false e = recalls_changed m w

-- what is told is noted

same_type_lem : (t u : Ty) → same_type t u ≡ true → t ≡ u
same_type_lem t u h =
    let p : t.inv ≡ u.inv = eq_bool_lem t.inv u.inv (and_left (eq_bool t.inv u.inv) (eqb t.idx u.idx) h) in
    let q : t.idx ≡ u.idx = eqb-true t.idx u.idx (and_right (eq_bool t.inv u.inv) (eqb t.idx u.idx) h) in
    λ i. record { inv = p i; idx = q i }

-- a note among ts of the clock c, with what it says
pub record NoteFound (c : ℕ) (ts : List Note) (a b : Ty) (r : Answer) : Type 0 where
  pub note : Note
  pub among : Memᴰ note ts
  pub now : note.when ≡ c
  pub first : note.first ≡ a
  pub second : note.second ≡ b
  pub answer : note.answer ≡ r

some_same : {A : Type 0} {a b : A} → some a ≡ some b → a ≡ b
some_same e = cc

pub told_found : (c : ℕ) (ts : List Note) (a b : Ty) (r : Answer) → told c ts a b ≡ some r → NoteFound c ts a b r
told_found c [] a b r e = let z : ◌≡◌ {A = ℕ} 0 1 = cc in absurd (omega arith)
told_found c (t ∷ ts) a b r e = go (speaks c a b t) refl e (told_found c ts a b r)
  where
    go : (v : Bool) → speaks c a b t ≡ v → pick v (some t.answer) (told c ts a b) ≡ some r → (told c ts a b ≡ some r → NoteFound c ts a b r) → NoteFound c (t ∷ ts) a b r
    go true h q ih =
        let g = and_right (eqb t.when c) (same_type t.first a && same_type t.second b) h in
        record {
          note = t;
          among = Memᴰ.head refl;
          now = eqb-true t.when c (and_left (eqb t.when c) (same_type t.first a && same_type t.second b) h);
          first = same_type_lem t.first a (and_left (same_type t.first a) (same_type t.second b) g);
          second = same_type_lem t.second b (and_right (same_type t.first a) (same_type t.second b) g);
          answer = some_same q;
        }
    go false h q ih =
        let w = ih q in
        record { note = w.note; among = Memᴰ.tail w.among; now = w.now; first = w.first; second = w.second; answer = w.answer }

-- what is noted of the present clock is told
pub found_told : (c : ℕ) (ts : List Note) (a b : Ty) (t : Note) → Memᴰ t ts → t.when ≡ c → t.first ≡ a → t.second ≡ b → told c ts a b ≡ none → ⊥
found_told c [] a b t m w p r e = elim m [ ]
found_told c (u ∷ ts) a b t (Memᴰ.head q) w p r e = let z : ◌≡◌ {A = ℕ} 0 1 = cc (spoken ∙ e) in omega arith
  where
    type_same : (v : Ty) → same_type v v ≡ true
    type_same v = and_both _ _ (eq_bool_same v.inv) (eq-eqb v.idx v.idx refl)

    says : speaks c a b u ≡ true
    says = subst (λ (v : Note). speaks c a b v ≡ true) q (rw (p, r) (and_both _ _ (eq-eqb t.when c w) (and_both _ _ (type_same a) (type_same b))))

    spoken : some u.answer ≡ told c (u ∷ ts) a b
    spoken = rw says refl
found_told c (u ∷ ts) a b t (Memᴰ.tail m) w p r e = go (speaks c a b u) e (found_told c ts a b t m w p r)
  where
    go : (v : Bool) → pick v (some u.answer) (told c ts a b) ≡ none → (told c ts a b ≡ none → ⊥) → ⊥
    go true q ih = let z : ◌≡◌ {A = ℕ} 0 1 = cc in omega arith
    go false q ih = ih q

pub recalls_told : {x : Texts} {n : ℕ} {ns : List Node} (m : Memory) (a b : Ty) (r : Answer) → Recalls x n ns m → look m a b ≡ some r
    → meet (unify_f x n n) x n ns a b ≡ out ns r
recalls_told {x} {n} {ns} m a b r w e =
    let t = told_found m.clock m.notes a b r e in
    subst (λ (v : Ty). meet (unify_f x n n) x n ns v b ≡ out ns r) t.first (subst (λ (v : Ty). meet (unify_f x n n) x n ns t.note.first v ≡ out ns r) t.second
    (w.true t.note t.among t.now ∙ ap (out ns) t.answer))

-- what two roots answered is noted, where the clock is as it was and has started

pub since_note : (m : Memory) (c : ℕ) (a b : Ty) (r : Answer) {ns : List Node} → Since m (note m c a b r) ns ns
since_note m c a b r {ns} = go (noting m.clock c)
  where
    go : (v : Bool) → Since m (pick v (noted m a b r) m) ns ns
    go true = record { on = omega arith; still = λ e h. refl }
    go false = since_same

started_above : (c : ℕ) → started c ≡ true → 0 < c
started_above zero h = tf (sym h)
started_above (suc c) h = omega arith

noting_now : (c d : ℕ) → noting c d ≡ true → (c ≡ d) × (0 < d)
noting_now c d e = (eqb-true c d (and_left (eqb c d) (started d) e), started_above d (and_right (eqb c d) (started d) e))

pub recalls_note : {x : Texts} {n : ℕ} {ns : List Node} (m : Memory) (c : ℕ) (a b : Ty) (r : Answer) → Recalls x n ns m
    → (m.clock ≡ c → 0 < c → meet (unify_f x n n) x n ns a b ≡ out ns r) → Recalls x n ns (note m c a b r)
recalls_note {x} {n} {ns} m c a b r w h = go (noting m.clock c) refl
  where
    new : Note
    new = record { first = a; second = b; when = m.clock; answer = r }

    go : (v : Bool) → noting m.clock c ≡ v → Recalls x n ns (pick v (noted m a b r) m)
    go false e = w
    go true e = record { past = λ t i. past t i; true = λ t i q. is t i q }
      where
        now : (m.clock ≡ c) × (0 < c)
        now = noting_now m.clock c e

        past : (t : Note) → Memᴰ t (new ∷ m.notes) → (0 < t.when) × (t.when ≤ m.clock)
        past t (Memᴰ.head q) = let z : t.when ≡ m.clock = ap (λ (v : Note). v.when) q in (omega (arith, z, now.0, now.1), omega (arith, z))
        past t (Memᴰ.tail i) = w.past t i

        is : (t : Note) → Memᴰ t (new ∷ m.notes) → t.when ≡ m.clock → meet (unify_f x n n) x n ns t.first t.second ≡ out ns t.answer
        is t (Memᴰ.head q) z =
            subst (λ (v : Note). meet (unify_f x n n) x n ns v.first v.second ≡ out ns v.answer) (sym q) (h now.0 now.1)
        is t (Memᴰ.tail i) z = w.true t i z
