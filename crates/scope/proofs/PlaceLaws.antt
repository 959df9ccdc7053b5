-- Laws of a book's places: what a search finds, what naming and dropping leave of the other places, and that names stay apart. Assumes nothing.
use mathlib.Core.Path.{◌≡◌, refl, sym, ap, ◌∙◌}
use mathlib.Core.List.{List, [], ◌∷◌}
use mathlib.Core.Bool.{Bool, true, false, not, ◌&&◌, ◌||◌}
use mathlib.Core.Option.{none, some}
use mathlib.Core.Logic.{◌≢◌, ◌⊎◌, inl, inr}
use Prim.Native.Nat.{ℕ, zero, suc, ◌<◌}
use native.Mathlib.Omega.{arith}
use native.Mathlib.Decide.{ℕ_discrete}
use lib.ListN.{length, get_or, set}
use lib.Seq.{get_or-set_same, get_or-set_other}
use borrow.Author.Tests.{not-true, not-false}
use Rattle.scope.specs.Base.{pick, all, any}
use Rattle.scope.specs.States.{Named, Place, is_free, under, is_held, place_where, place_for, held_once, names_differ, no_place}
use Rattle.scope.proofs.TestLaws.{tf, and_left, and_right, and_both, or_no, or-true}
use Rattle.scope.proofs.NameLaws.{eq_bytes_lem, bytes_eq}

-- the place at i; past the last one a free one
abbrev pub place_at : List Place → ℕ → Place
place_at ps i = get_or ps i none

pub not_held : {h : Named} → ◌≡◌ {A = Place} none (some h) → ⊥
not_held e = let z : ◌≡◌ {A = ℕ} 0 1 = cc in omega arith

-- what a search finds
pub record PlaceFound (p : Place → Bool) (ps : List Place) (i : ℕ) : Type 0 where
  pub inside : i < length ps
  pub passes : p (place_at ps i) ≡ true

pub found : (p : Place → Bool) (ps : List Place) → any p ps ≡ true → PlaceFound p ps (place_where p ps)
unfolding place_where
found p [] e = tf (sym e)
found p (x ∷ xs) e = go (p x) refl e (found p xs)
  where
    go : (b : Bool) → p x ≡ b → (b || any p xs) ≡ true → (any p xs ≡ true → PlaceFound p xs (place_where p xs)) → PlaceFound p (x ∷ xs) (pick b 0 (suc (place_where p xs)))
    go true q e ih = record { inside = omega arith; passes = q }
    go false q e ih = let f = ih e in record { inside = omega (arith, f.inside); passes = f.passes }

free_none : (x : Place) → is_free x ≡ true → x ≡ none
free_none none e = refl
free_none (some h) e = tf (sym e)

-- a place that is held under n
pub record Holds (n : List ℕ) (x : Place) : Type 0 where
  pub state : Named
  pub is : x ≡ some state
  pub name : state.name ≡ n

pub under_holds : (n : List ℕ) (x : Place) → under n x ≡ true → Holds n x
under_holds n none e = tf (sym e)
under_holds n (some h) e = record { state = h; is = refl; name = eq_bytes_lem h.name n e }

-- where no place is held under n
none_under : (n : List ℕ) (ps : List Place) → is_held n ps ≡ false → (i : ℕ) → under n (place_at ps i) ≡ false
none_under n [] e i = refl
none_under n (x ∷ xs) e zero = (or_no (under n x) (any (under n) xs) e).0
none_under n (x ∷ xs) e (suc i) = none_under n xs (or_no (under n x) (any (under n) xs) e).1 i

unheld_apart : (n : List ℕ) (ps : List Place) → is_held n ps ≡ false → (i : ℕ) (h : Named) → place_at ps i ≡ some h → h.name ≡ n → ⊥
unheld_apart n ps e i h q w = tf (sym (bytes_eq w) ∙ ap (under n) (sym q) ∙ none_under n ps e i)

-- names apart, by their places
abbrev pub Apart : List Place → Type 0
Apart ps = (i j : ℕ) (h k : Named) → place_at ps i ≡ some h → place_at ps j ≡ some k → h.name ≡ k.name → i ≡ j

once_apart : (x : Place) (ps : List Place) → held_once x ps ≡ true → (j : ℕ) (h k : Named) → x ≡ some h → place_at ps j ≡ some k → h.name ≡ k.name → ⊥
once_apart none ps e j h k q w r = not_held q
once_apart (some g) ps e j h k q w r =
    let s : g ≡ h = cc in
    unheld_apart g.name ps (not-true (is_held g.name ps) e) j k w (sym r ∙ ap (λ (x : Named). x.name) (sym s))

pub differ_apart : (ps : List Place) → names_differ ps ≡ true → Apart ps
differ_apart [] e i j h k q w r = absurd (not_held q)
differ_apart (x ∷ xs) e zero zero h k q w r = refl
differ_apart (x ∷ xs) e zero (suc j) h k q w r = absurd (once_apart x xs (and_left (held_once x xs) (names_differ xs) e) j h k q w r)
differ_apart (x ∷ xs) e (suc i) zero h k q w r = absurd (once_apart x xs (and_left (held_once x xs) (names_differ xs) e) i k h w q (sym r))
differ_apart (x ∷ xs) e (suc i) (suc j) h k q w r = ap suc (differ_apart xs (and_right (held_once x xs) (names_differ xs) e) i j h k q w r)

apart_once : (x : Place) (xs : List Place) → Apart (x ∷ xs) → held_once x xs ≡ true
apart_once none xs a = refl
apart_once (some h) xs a = go (is_held h.name xs) refl
  where
    go : (b : Bool) → is_held h.name xs ≡ b → not b ≡ true
    go false q = refl
    go true q =
        let f = found (under h.name) xs q in
        let g = under_holds h.name (place_at xs (place_where (under h.name) xs)) f.passes in
        absurd (omega (arith, a 0 (suc (place_where (under h.name) xs)) h g.state refl g.is (sym g.name)))

pub apart_differ : (ps : List Place) → Apart ps → names_differ ps ≡ true
apart_differ [] a = refl
apart_differ (x ∷ xs) a = and_both (held_once x xs) (names_differ xs) (apart_once x xs a)
    (apart_differ xs (λ i j h k q w r. omega (arith, a (suc i) (suc j) h k q w r)))

-- a place given another content
pub set_cases : (ps : List Place) (i : ℕ) (x : Place) (j : ℕ) → i < length ps
    → ((j ≡ i) × (place_at (set ps i x) j ≡ x)) ⊎ ((j ≢ i) × (place_at (set ps i x) j ≡ place_at ps j))
set_cases ps i x j l = go (ℕ_discrete j i)
  where
    go : Dec (j ≡ i) → ((j ≡ i) × (place_at (set ps i x) j ≡ x)) ⊎ ((j ≢ i) × (place_at (set ps i x) j ≡ place_at ps j))
    go (yes q) = inl (q, ap (place_at (set ps i x)) q ∙ get_or-set_same ps i x none l)
    go (no q) = inr (q, get_or-set_other ps i j x none q)

-- the place i is the one for n: no other is held under n, and it is not held under another name
pub record For (n : List ℕ) (ps : List Place) (i : ℕ) : Type 0 where
  pub inside : i < length ps
  pub only : (j : ℕ) (h : Named) → place_at ps j ≡ some h → h.name ≡ n → j ≡ i
  pub own : (h : Named) → place_at ps i ≡ some h → h.name ≡ n

pub held_place : (n : List ℕ) (ps : List Place) → Apart ps → is_held n ps ≡ true → For n ps (place_where (under n) ps) × Holds n (place_at ps (place_where (under n) ps))
held_place n ps a e =
    let f = found (under n) ps e in
    let g = under_holds n (place_at ps (place_where (under n) ps)) f.passes in (
      record {
        inside = f.inside;
        only = λ j h q r. a j (place_where (under n) ps) h g.state q g.is (r ∙ sym g.name);
        own = λ h q. let s : some g.state ≡ some h = sym g.is ∙ q in let r : g.state ≡ h = cc in sym (ap (λ (x : Named). x.name) r) ∙ g.name;
      },
      g,
    )

pub place_for_lem : (n : List ℕ) (ps : List Place) → Apart ps → (no_place n ps).0 ≡ false → For n ps (place_for n ps)
place_for_lem n ps a = go (is_held n ps) refl
  where
    go : (b : Bool) → is_held n ps ≡ b → (not b && not (any is_free ps)) ≡ false → For n ps (pick b (place_where (under n) ps) (place_where is_free ps))
    go true q e = (held_place n ps a q).0
    go false q e =
        let f = found is_free ps (not-false (any is_free ps) e) in
        record {
          inside = f.inside;
          only = λ j h w r. absurd (unheld_apart n ps q j h w r);
          own = λ h w. absurd (not_held (sym (free_none (place_at ps (place_where is_free ps)) f.passes) ∙ w));
        }

-- names stay apart
pub set_apart : (n : List ℕ) (ps : List Place) (i : ℕ) (x : Place) → Apart ps → For n ps i → ((h : Named) → x ≡ some h → h.name ≡ n) → Apart (set ps i x)
set_apart n ps i x a f own j k g h q w r = go (set_cases ps i x j f.inside) (set_cases ps i x k f.inside)
  where
    new : place_at (set ps i x) j ≡ x → g.name ≡ n
    new p = own g (sym p ∙ q)

    newer : place_at (set ps i x) k ≡ x → h.name ≡ n
    newer p = own h (sym p ∙ w)

    go : ((j ≡ i) × (place_at (set ps i x) j ≡ x)) ⊎ ((j ≢ i) × (place_at (set ps i x) j ≡ place_at ps j))
        → ((k ≡ i) × (place_at (set ps i x) k ≡ x)) ⊎ ((k ≢ i) × (place_at (set ps i x) k ≡ place_at ps k)) → j ≡ k
    go (inl p) (inl o) = p.0 ∙ sym o.0
    go (inl p) (inr o) = absurd (o.0 (f.only k h (sym o.1 ∙ w) (sym r ∙ new p.1)))
    go (inr p) (inl o) = absurd (p.0 (f.only j g (sym p.1 ∙ q) (r ∙ newer o.1)))
    go (inr p) (inr o) = a j k g h (sym p.1 ∙ q) (sym o.1 ∙ w) r

-- a test of every place
pub all_places : (p : Place → Bool) → p none ≡ true → (ps : List Place) → all p ps ≡ true → (i : ℕ) → p (place_at ps i) ≡ true
all_places p z [] e i = z
all_places p z (x ∷ xs) e zero = and_left (p x) (all p xs) e
all_places p z (x ∷ xs) e (suc i) = all_places p z xs (and_right (p x) (all p xs) e) i

pub all_set : (p : Place → Bool) (ps : List Place) (i : ℕ) (x : Place) → all p ps ≡ true → p x ≡ true → all p (set ps i x) ≡ true
all_set p [] i x e q = refl
all_set p (y ∷ ys) zero x e q = and_both (p x) (all p ys) q (and_right (p y) (all p ys) e)
all_set p (y ∷ ys) (suc i) x e q = and_both (p y) (all p (set ys i x)) (and_left (p y) (all p ys) e) (all_set p ys i x (and_right (p y) (all p ys) e) q)

-- the place found under n does not change where another one is given a content that is not n's
pub set_other : (n : List ℕ) (ps : List Place) (i : ℕ) (x : Place) → under n (place_at ps i) ≡ false → under n x ≡ false
    → place_at (set ps i x) (place_where (under n) (set ps i x)) ≡ place_at ps (place_where (under n) ps)
unfolding place_where
set_other n [] i x e q = refl
set_other n (y ∷ ys) zero x e q = rw (e, q) refl
set_other n (y ∷ ys) (suc i) x e q = go (under n y) (set_other n ys i x e q)
  where
    go : (b : Bool) → place_at (set ys i x) (place_where (under n) (set ys i x)) ≡ place_at ys (place_where (under n) ys)
        → place_at (y ∷ set ys i x) (pick b 0 (suc (place_where (under n) (set ys i x)))) ≡ place_at (y ∷ ys) (pick b 0 (suc (place_where (under n) ys)))
    go true ih = refl
    go false ih = ih

-- and the place that was given one is found
set_any : (p : Place → Bool) (ps : List Place) (i : ℕ) (x : Place) → i < length ps → p x ≡ true → any p (set ps i x) ≡ true
set_any p [] i x l u = absurd (omega arith)
set_any p (y ∷ ys) zero x l u = rw u refl
set_any p (y ∷ ys) (suc i) x l u = or-true (p y) (any p (set ys i x)) (set_any p ys i x (omega arith) u)

pub set_held : (n : List ℕ) (ps : List Place) (i : ℕ) (x : Place) → For n ps i → under n x ≡ true → is_held n (set ps i x) ≡ true
set_held n ps i x f u = set_any (under n) ps i x f.inside u

pub set_found : (n : List ℕ) (ps : List Place) (i : ℕ) (x : Place) → For n ps i → under n x ≡ true
    → place_at (set ps i x) (place_where (under n) (set ps i x)) ≡ x
set_found n ps i x f u = go (set_cases ps i x k f.inside)
  where
    k : ℕ
    k = place_where (under n) (set ps i x)

    w : PlaceFound (under n) (set ps i x) k
    w = found (under n) (set ps i x) (set_held n ps i x f u)

    go : ((k ≡ i) × (place_at (set ps i x) k ≡ x)) ⊎ ((k ≢ i) × (place_at (set ps i x) k ≡ place_at ps k)) → place_at (set ps i x) k ≡ x
    go (inl p) = p.1
    go (inr p) = let g = under_holds n (place_at (set ps i x) k) w.passes in absurd (p.0 (f.only k g.state (sym p.1 ∙ g.is) g.name))
