-- Laws of tests: of two, and of the elements of a list. Assumes nothing.
use mathlib.Core.Path.{◌≡◌, refl, sym, ap, ◌∙◌}
use mathlib.Core.List.{List, [], ◌∷◌, Memᴰ}
use mathlib.Core.Bool.{Bool, true, false, ◌&&◌, ◌||◌}
use Prim.Native.Nat.{ℕ, ◌+◌, ◌≤◌, ◌<◌}
use native.Mathlib.Omega.{arith}
use lib.ListN.{length}
use Rattle.scope.specs.Base.{pick, all, any, count}
use Rattle.scope.specs.Kinds.{eq_bool}

pub tf : {A : Type 0} → true ≡ false → A
tf e = let z : ◌≡◌ {A = ℕ} 0 1 = cc in absurd (omega arith)

pub and_left : (a b : Bool) → (a && b) ≡ true → a ≡ true
and_left true b e = refl
and_left false b e = e

pub and_right : (a b : Bool) → (a && b) ≡ true → b ≡ true
and_right true b e = e
and_right false b e = tf (sym e)

pub and_both : (a b : Bool) → a ≡ true → b ≡ true → (a && b) ≡ true
and_both a b p q = rw (p, q)

pub or_no : (a b : Bool) → (a || b) ≡ false → (a ≡ false) × (b ≡ false)
or_no true b e = tf e
or_no false b e = (refl, e)

pub or-true : (a b : Bool) → b ≡ true → (a || b) ≡ true
or-true true b e = refl
or-true false b e = e

pub eq_bool_lem : (a b : Bool) → eq_bool a b ≡ true → a ≡ b
eq_bool_lem true true h = refl
eq_bool_lem true false h = sym h
eq_bool_lem false true h = h
eq_bool_lem false false h = refl

pub eq_bool_same : (a : Bool) → eq_bool a a ≡ true
eq_bool_same true = refl
eq_bool_same false = refl

-- each element
pub all_of {ℓ} : {A : Type ℓ} (p : A → Bool) (xs : List A) → ((x : A) → Memᴰ x xs → p x ≡ true) → all p xs ≡ true
all_of p [] h = refl
all_of p (x ∷ xs) h = and_both (p x) (all p xs) (h x (Memᴰ.head refl)) (all_of p xs (λ y m. h y (Memᴰ.tail m)))

pub of-all {ℓ} : {A : Type ℓ} (p : A → Bool) (xs : List A) {x : A} → all p xs ≡ true → Memᴰ x xs → p x ≡ true
of-all p [] e m = elim m [ ]
of-all p (y ∷ ys) e (Memᴰ.head q) = ap p q ∙ and_left (p y) (all p ys) e
of-all p (y ∷ ys) e (Memᴰ.tail m) = of-all p ys (and_right (p y) (all p ys) e) m

-- not each
pub all_no : {A : Type 0} (p : A → Bool) (xs : List A) → all p xs ≡ false → (x : A) × Memᴰ x xs × (p x ≡ false)
all_no p [] e = tf e
all_no {A} p (y ∷ ys) e = go (p y) refl e (all_no p ys)
  where
    go : (b : Bool) → p y ≡ b → (b && all p ys) ≡ false → (all p ys ≡ false → (x : A) × Memᴰ x ys × (p x ≡ false))
        → (x : A) × Memᴰ x (y ∷ ys) × (p x ≡ false)
    go false q r ih = (y, Memᴰ.head refl, q)
    go true q r ih = let z = ih r in (z.0, Memᴰ.tail z.1, z.2)

-- some element
pub any_yes : {A : Type 0} (p : A → Bool) (xs : List A) → any p xs ≡ true → (x : A) × Memᴰ x xs × (p x ≡ true)
any_yes p [] e = tf (sym e)
any_yes {A} p (y ∷ ys) e = go (p y) refl e (any_yes p ys)
  where
    go : (b : Bool) → p y ≡ b → (b || any p ys) ≡ true → (any p ys ≡ true → (x : A) × Memᴰ x ys × (p x ≡ true))
        → (x : A) × Memᴰ x (y ∷ ys) × (p x ≡ true)
    go true q r ih = (y, Memᴰ.head refl, q)
    go false q r ih = let z = ih r in (z.0, Memᴰ.tail z.1, z.2)

pub yes_any : {A : Type 0} (p : A → Bool) (xs : List A) (x : A) → Memᴰ x xs → p x ≡ true → any p xs ≡ true
yes_any p [] x m e = elim m [ ]
yes_any p (y ∷ ys) x (Memᴰ.head q) e = rw (sym (ap p q) ∙ e)
yes_any p (y ∷ ys) x (Memᴰ.tail m) e = or-true (p y) (any p ys) (yes_any p ys x m e)

-- none
pub any_no : {A : Type 0} (p : A → Bool) (xs : List A) {x : A} → any p xs ≡ false → Memᴰ x xs → p x ≡ false
any_no p [] e m = elim m [ ]
any_no p (y ∷ ys) e (Memᴰ.head q) = ap p q ∙ (or_no (p y) (any p ys) e).0
any_no p (y ∷ ys) e (Memᴰ.tail m) = any_no p ys (or_no (p y) (any p ys) e).1 m

-- how many: one for each that passes
pub one_le : (a b : Bool) → (a ≡ true → b ≡ true) → pick a 1 0 ≤ pick b 1 0
one_le false b h = omega arith
one_le true true h = omega arith
one_le true false h = tf (sym (h refl))

module _ {A : Type 0} (p q : A → Bool) (less : (x : A) → p x ≡ true → q x ≡ true) where
  pub count_le : (xs : List A) → count p xs ≤ count q xs
  count_le [] = omega arith
  count_le (x ∷ xs) = omega (arith, one_le (p x) (q x) (less x), count_le xs)

  pub count_lt : (xs : List A) {x : A} → Memᴰ x xs → p x ≡ false → q x ≡ true → count p xs < count q xs
  count_lt [] {x = x} m f t = elim m [ ]
  count_lt (y ∷ xs) {x} (Memᴰ.head e) f t = rw (ap p (sym e) ∙ f, ap q (sym e) ∙ t) (omega (arith, count_le xs))
  count_lt (y ∷ xs) (Memᴰ.tail m) f t = omega (arith, one_le (p y) (q y) (less y), count_lt xs m f t)

-- two tests that no element passes both of
pub count_apart : {A : Type 0} (p q : A → Bool) → ((x : A) → p x ≡ true → q x ≡ false) → (xs : List A) → count p xs + count q xs ≤ length xs
count_apart p q h [] = omega arith
count_apart p q h (x ∷ xs) = omega (arith, go (p x) (q x) (h x), count_apart p q h xs)
  where
    go : (a b : Bool) → (a ≡ true → b ≡ false) → pick a 1 0 + pick b 1 0 ≤ 1
    go false false f = omega arith
    go false true f = omega arith
    go true false f = omega arith
    go true true f = tf (f refl)

-- tests
pub same_bool : (a b : Bool) → (a ≡ true → b ≡ true) → (b ≡ true → a ≡ true) → a ≡ b
same_bool true b p q = sym (p refl)
same_bool false true p q = q refl
same_bool false false p q = refl
