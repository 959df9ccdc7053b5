-- Children read from their words: how many there are, the type beside a name, all but the last and the last. One law for each way out of `seek` and `Search::between`; `seek` goes on while
-- what the children from a place on give is what all give.
-- Assumes nothing.
use mathlib.Core.Path.{◌≡◌, refl, ap, sym, subst, ◌∙◌}
use mathlib.Core.Bool.{Bool, true, false, ◌&&◌, ◌||◌, false≢true}
use mathlib.Core.List.{List, [], ◌∷◌, map, Memᴰ}
use mathlib.Core.Option.{none, some}
use Prim.Native.Nat.{ℕ, zero, suc, ◌+◌, ◌-◌, ◌<◌, ◌≤◌}
use native.Mathlib.Omega.{arith}
use native.Mathlib.Decide.{dec_lt, ℕ_discrete}
use lib.Dec.{eqb, ltb}
use borrow.Author.Tests.{eq-eqb, lt-ltb, le-ltb}
use lib.ListN.{length, length-map}
use Rattle.scope.specs.Base.{front, last}
use Rattle.scope.specs.Names.{Texts, Name, bytes, bytes_or, eq_bytes, lt_bytes, ascending}
use Rattle.scope.specs.Types.{Ty, ty_of}
use Rattle.scope.specs.Unify.{seek}
use Rattle.scope.specs.Sound as sound
use Rattle.scope.proofs.NameLaws.{eq_bytes_lem, bytes_eq, lt_irrefl, lt_trans, lt_apart, ascending_tail, ascending_above}
use Rattle.scope.specs.Sound.{slot_name}
use Rattle.layout.specs.Words.{slot_at, slots}
use Rattle.layout.specs.Meaning.{slot_means}
use Rattle.layout.specs.declared.Slot.{Slot}
use Rattle.names.specs.Place.{name_of}
use Rattle.layout.proofs.ChildLaws.{length_slots}
use Rattle.plan.specs.Meaning.{kids_from, names_from}
use Rattle.names.proofs.InWords.{name_bytes}
use Rattle.meeting.specs.Kids.{slot_place, sought_in, nth, Middle, Between}
use Rattle.meeting.specs.Steps.{Ascends}

-- numbers

pub one_more : (n i : ℕ) → i < n → n - i ≡ suc (n - (i + 1))
one_more n i h = omega arith

pub none_left : (n i : ℕ) → n ≤ i → n - i ≡ 0
none_left n i h = omega arith

-- children from a place on

pub kid_length : (ks : List ℕ) (a n : ℕ) → length (kids_from ks a n) ≡ n
kid_length ks a n = length-map (slots ks a n) (λ s. ty_of s.type) ∙ length_slots ks a n

abbrev pub kid_ty : List ℕ → ℕ → Ty
kid_ty ks i = ty_of (slot_at ks i).type

-- a child that was read

pub child_place : {s : Slot} {c : sound.Slot} → slot_means s ≡ c → name_of s.name ≡ slot_place c
child_place e = ap slot_place e

pub child_type : {s : Slot} {c : sound.Slot} → slot_means s ≡ c → s.ty.0 ≡ c.type
child_type e = ap (λ (z : sound.Slot). z.type) e

-- `seek`

pub slot_bytes : (x : Texts) (s : sound.Slot) → bytes_or x (slot_name s) ≡ bytes x (slot_place s)
slot_bytes x s = name_bytes x s.text s.start s.len

-- `seek_near`: of names that ascend no other is as the i-th

-- of two names that are not the same one comes before the other
lt_other : (xs ys : List ℕ) → eq_bytes xs ys ≡ false → lt_bytes xs ys ≡ false → lt_bytes ys xs ≡ true
unfolding eq_bytes lt_bytes
lt_other [] [] e f = absurd (false≢true (sym e))
lt_other [] (y ∷ ys) e f = absurd (false≢true (sym f))
lt_other (x ∷ xs) [] e f = refl
lt_other (x ∷ xs) (y ∷ ys) e f = go (dec_lt y x) (ℕ_discrete x y) (lt_other xs ys)
  where
    go : Dec (y < x) → Dec (x ≡ y) → (eq_bytes xs ys ≡ false → lt_bytes xs ys ≡ false → lt_bytes ys xs ≡ true) → (ltb y x || (eqb y x && lt_bytes ys xs)) ≡ true
    go (yes h) d ih = rw (lt-ltb y x h) refl
    go (no h) (yes d) ih =
        let g : ltb x y ≡ false = le-ltb x y (omega arith) in
        let u : eqb x y ≡ true = eq-eqb x y d in
        let v : eqb y x ≡ true = eq-eqb y x (sym d) in
        rw (le-ltb y x (omega arith), v) (ih (rw u at e) (rw (g, u) at f))
    go (no h) (no d) ih = absurd (false≢true (sym f ∙ rw (lt-ltb x y (omega arith)) refl))

lt_differs : (xs ys : List ℕ) → lt_bytes xs ys ≡ true → eq_bytes xs ys ≡ false
lt_differs xs ys h = go (eq_bytes xs ys) refl
  where
    go : (t : Bool) → eq_bytes xs ys ≡ t → eq_bytes xs ys ≡ false
    go true e = absurd (false≢true (sym (lt_irrefl ys) ∙ subst (λ (zs : List ℕ). lt_bytes zs ys ≡ true) (eq_bytes_lem xs ys e) h))
    go false e = e

name_among : (x : Texts) (ks : List ℕ) (b count i : ℕ) → i < count
    → Memᴰ (bytes_or x (slot_name (slot_at ks (b + i)))) (map (bytes_or x) (names_from ks b count))
name_among x ks b zero i h = absurd (omega arith)
name_among x ks b (suc c) zero h = let p : b + 0 ≡ b = omega arith in rw p (Memᴰ.head refl)
name_among x ks b (suc c) (suc i) h = let p : b + suc i ≡ suc b + i = omega arith in rw p (Memᴰ.tail (name_among x ks (suc b) c i (omega arith)))

seek_at : (x : Texts) (ks n : List ℕ) (b count i : ℕ) → i < count → ascending (map (bytes_or x) (names_from ks b count)) ≡ true
    → n ≡ bytes_or x (slot_name (slot_at ks (b + i))) → seek x n (names_from ks b count) (kids_from ks b count) ≡ some (kid_ty ks (b + i))
unfolding seek
seek_at x ks n b zero i h a e = absurd (omega arith)
seek_at x ks n b (suc c) zero h a e =
    let p : b + 0 ≡ b = omega arith in
    let q : n ≡ bytes_or x (slot_name (slot_at ks b)) = rw p at e in
    rw (p, bytes_eq q) refl
seek_at x ks n b (suc c) (suc i) h a e =
    let p : b + suc i ≡ suc b + i = omega arith in
    let q : n ≡ bytes_or x (slot_name (slot_at ks (suc b + i))) = rw p at e in
    let y : List ℕ = bytes_or x (slot_name (slot_at ks b)) in
    let l = ascending_above y (map (bytes_or x) (names_from ks (suc b) c)) a (bytes_or x (slot_name (slot_at ks (suc b + i)))) (name_among x ks (suc b) c i (omega arith)) in
    rw (p, ap (λ (z : List ℕ). eq_bytes z y) q ∙ lt_apart y (bytes_or x (slot_name (slot_at ks (suc b + i)))) l)
    (seek_at x ks n (suc b) c i (omega arith) (ascending_tail y (map (bytes_or x) (names_from ks (suc b) c)) a) q)

pub seek_near : {x : Texts} {ks : List ℕ} (m : Name) {k : Name} {b count i t : ℕ} {r : Bool} → Ascends x ks b count → i < count → k ≡ slot_place (slot_at ks (b + i))
    → r ≡ eq_bytes (bytes x m) (bytes x k) → r ≡ true → t ≡ (slot_at ks (b + i)).type → some (ty_of t) ≡ sought_in x ks m b count
seek_near {x} {ks} m {k} {b} {count} {i} a h e f g q =
    let l : bytes x m ≡ bytes_or x (slot_name (slot_at ks (b + i))) = eq_bytes_lem (bytes x m) (bytes x k) (sym f ∙ g) ∙ (ap (bytes x) e ∙ sym (slot_bytes x (slot_at ks (b + i)))) in
    rw q (sym (seek_at x ks (bytes x m) b count i h a.names l))

-- the names of other children come before the i-th or behind it

nth_later : (x : Texts) (ks : List ℕ) (b count i j : ℕ) → ascending (map (bytes_or x) (names_from ks b count)) ≡ true → i < j → j < count → lt_bytes (nth x ks b i) (nth x ks b j) ≡ true
nth_later x ks b zero i j a h l = absurd (omega arith)
nth_later x ks b (suc c) zero zero a h l = absurd (omega arith)
nth_later x ks b (suc c) zero (suc j) a h l =
    let p : b + 0 ≡ b = omega arith in
    let q : b + suc j ≡ suc b + j = omega arith in
    rw (p, q) (ascending_above (bytes_or x (slot_name (slot_at ks b))) (map (bytes_or x) (names_from ks (suc b) c)) a (nth x ks (suc b) j) (name_among x ks (suc b) c j (omega arith)))
nth_later x ks b (suc c) (suc i) zero a h l = absurd (omega arith)
nth_later x ks b (suc c) (suc i) (suc j) a h l =
    let p : b + suc i ≡ suc b + i = omega arith in
    let q : b + suc j ≡ suc b + j = omega arith in
    rw (p, q) (nth_later x ks (suc b) c i j (ascending_tail (bytes_or x (slot_name (slot_at ks b))) (map (bytes_or x) (names_from ks (suc b) c)) a) (omega arith) (omega arith))

-- a name that is none of theirs
seek_none : (x : Texts) (ks n : List ℕ) (b count : ℕ) → ((j : ℕ) → j < count → eq_bytes n (nth x ks b j) ≡ false) → seek x n (names_from ks b count) (kids_from ks b count) ≡ none
unfolding seek
seek_none x ks n b zero h = refl
seek_none x ks n b (suc c) h =
    let p : b + 0 ≡ b = omega arith in
    let e : eq_bytes n (bytes_or x (slot_name (slot_at ks b))) ≡ false = rw p at (h 0 (omega arith)) in
    rw e (seek_none x ks n (suc b) c (λ j l. let q : b + suc j ≡ suc b + j = omega arith in rw q at (h (suc j) (omega arith))))

-- the first that is as the name sought
seek_first : (x : Texts) (ks n : List ℕ) (b count i : ℕ) → i < count → eq_bytes n (nth x ks b i) ≡ true → ((j : ℕ) → j < i → eq_bytes n (nth x ks b j) ≡ false)
    → seek x n (names_from ks b count) (kids_from ks b count) ≡ some (kid_ty ks (b + i))
unfolding seek
seek_first x ks n b zero i l e h = absurd (omega arith)
seek_first x ks n b (suc c) zero l e h =
    let p : b + 0 ≡ b = omega arith in
    let q : eq_bytes n (bytes_or x (slot_name (slot_at ks b))) ≡ true = rw p at e in
    rw (p, q) refl
seek_first x ks n b (suc c) (suc i) l e h =
    let p : b + suc i ≡ suc b + i = omega arith in
    let z : b + 0 ≡ b = omega arith in
    let q : eq_bytes n (bytes_or x (slot_name (slot_at ks b))) ≡ false = rw z at (h 0 (omega arith)) in
    rw (p, q)
    (seek_first x ks n (suc b) c i (omega arith) (rw p at e) (λ j k. let y : b + suc j ≡ suc b + j = omega arith in rw y at (h (suc j) (omega arith))))

pub child_name : (x : Texts) (ks : List ℕ) (b j : ℕ) (s : Slot) → slot_means s ≡ slot_at ks (b + j) → bytes x (name_of s.name) ≡ nth x ks b j
child_name x ks b j s e = ap (bytes x) (child_place e) ∙ sym (slot_bytes x (slot_at ks (b + j)))

-- what a search over the places finds
module _ (x : Texts) (ks : List ℕ) (m : Name) (b count : ℕ) where
  pub seek_over : ((j : ℕ) → 0 ≤ j → j < count → eq_bytes (bytes x m) (nth x ks b j) ≡ false) → none ≡ sought_in x ks m b count
  seek_over h = sym (seek_none x ks (bytes x m) b count (λ j l. h j (omega arith) l))

  pub seek_here : {i t : ℕ} → i < count → eq_bytes (bytes x m) (nth x ks b i) ≡ true
      → ((j : ℕ) → 0 ≤ j → j < i → eq_bytes (bytes x m) (nth x ks b j) ≡ false) → t ≡ (slot_at ks (b + i)).type → some (ty_of t) ≡ sought_in x ks m b count
  seek_here {i} l e h q = rw q (sym (seek_first x ks (bytes x m) b count i l e (λ j k. h j (omega arith) k)))

-- `Search::between`: names below low come before the name sought, names from high on behind it

module _ {x : Texts} {ks : List ℕ} {m : Name} {b count low high at : ℕ} (w : Between x ks m b count low high at) where
  pub between_over : high ≤ low → none ≡ sought_in x ks m b count
  between_over h = sym (seek_none x ks (bytes x m) b count apart)
    where
      apart : (j : ℕ) → j < count → eq_bytes (bytes x m) (nth x ks b j) ≡ false
      apart j l = go (dec_lt j low)
        where
          go : Dec (j < low) → eq_bytes (bytes x m) (nth x ks b j) ≡ false
          go (yes k) = lt_apart (nth x ks b j) (bytes x m) (w.under j k l)
          go (no k) = lt_differs (bytes x m) (nth x ks b j) (w.over j (omega arith) l)

  module _ (l : low < high) (a : Ascends x ks b count) {k : Name} (e : k ≡ slot_place (slot_at ks (b + at))) where
    there : at < count
    there = omega (arith, w.look.below l, w.top)

    other : bytes x k ≡ nth x ks b at
    other = ap (bytes x) e ∙ sym (slot_bytes x (slot_at ks (b + at)))

    pub between_before : {r : Bool} {at' : ℕ} → r ≡ lt_bytes (bytes x m) (bytes x k) → r ≡ true → Middle low at at' → Between x ks m b count low at at'
    between_before {r} f g q =
        let h : lt_bytes (bytes x m) (nth x ks b at) ≡ true = ap (lt_bytes (bytes x m)) (sym other) ∙ (sym f ∙ g) in
        record {
          top = omega (arith, there);
          look = q;
          under = w.under;
          over = λ j i c. go j c h (ℕ_discrete at j) i;
        }
      where
        go : (j : ℕ) → j < count → lt_bytes (bytes x m) (nth x ks b at) ≡ true → Dec (at ≡ j) → at ≤ j → lt_bytes (bytes x m) (nth x ks b j) ≡ true
        go j c h (yes i) p = subst (λ (y : ℕ). lt_bytes (bytes x m) (nth x ks b y) ≡ true) i h
        go j c h (no i) p = lt_trans (bytes x m) (nth x ks b at) (nth x ks b j) h (nth_later x ks b count at j a.names (omega arith) c)

    pub between_behind : {r s : Bool} {at' : ℕ} → s ≡ eq_bytes (bytes x m) (bytes x k) → s ≡ false → r ≡ lt_bytes (bytes x m) (bytes x k) → r ≡ false
        → Middle (at + 1) high at' → Between x ks m b count (at + 1) high at'
    between_behind {r} {s} d t f g q =
        let h : lt_bytes (nth x ks b at) (bytes x m) ≡ true =
        lt_other (bytes x m) (nth x ks b at) (ap (eq_bytes (bytes x m)) (sym other) ∙ (sym d ∙ t)) (ap (lt_bytes (bytes x m)) (sym other) ∙ (sym f ∙ g)) in
        record {
          top = w.top;
          look = q;
          under = λ j i c. go j c h (ℕ_discrete j at) i;
          over = w.over;
        }
      where
        go : (j : ℕ) → j < count → lt_bytes (nth x ks b at) (bytes x m) ≡ true → Dec (j ≡ at) → j < at + 1 → lt_bytes (nth x ks b j) (bytes x m) ≡ true
        go j c h (yes i) p = subst (λ (y : ℕ). lt_bytes (nth x ks b y) (bytes x m) ≡ true) (sym i) h
        go j c h (no i) p = lt_trans (nth x ks b j) (nth x ks b at) (bytes x m) (nth_later x ks b count j at a.names (omega arith) there) h

-- all but the last child, and the last

pub front_kids : (ks : List ℕ) (a n : ℕ) → front (kids_from ks a n) ≡ kids_from ks a (n - 1)
front_kids ks a zero = refl
front_kids ks a (suc zero) = refl
front_kids ks a (suc (suc n)) =
    let e : suc (suc n) - 1 ≡ suc n = omega arith in
    let f : suc n - 1 ≡ n = omega arith in
    rw (e, front_kids ks (suc a) (suc n), f) refl

pub last_kid : (ks : List ℕ) (a n : ℕ) → 0 < n → last (kids_from ks a n) ≡ kid_ty ks (a + (n - 1)) ∷ []
last_kid ks a zero h = absurd (omega arith)
last_kid ks a (suc zero) h = let e : a + (suc zero - 1) ≡ a = omega arith in rw e refl
last_kid ks a (suc (suc n)) h =
    let e : suc a + (suc n - 1) ≡ a + (suc (suc n) - 1) = omega arith in
    rw (last_kid ks (suc a) (suc n) (omega arith), e) refl
