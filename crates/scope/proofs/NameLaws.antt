-- Laws of bytes: `eq_bytes` is equality, `lt_bytes` a strict order, and of two strictly ascending lists of equal length one within the other is the
-- other. Assumes nothing.
use mathlib.Core.Path.{◌≡◌, refl, sym, ap₂, subst, ◌∙◌}
use mathlib.Core.List.Memᴰ
use mathlib.Core.List.{List, [], ◌∷◌, Memᴰ}
use mathlib.Core.Bool.{Bool, true, false, ◌&&◌, ◌||◌, false≢true, and-eq-true_iff}
use mathlib.Core.Logic.{◌⊎◌, inl, inr}
use Prim.Native.Nat.{ℕ, suc, ◌≤◌, ◌<◌}
use native.Mathlib.Omega.{arith}
use lib.Dec.{eqb, ltb}
use lib.ListN.{length}
use borrow.Author.Tests.{eqb-true, eq-eqb, ltb-true, lt-ltb, le-ltb}
use Rattle.scope.specs.Names.{eq_bytes, lt_bytes, ascending}

pub eq_bytes_lem : (xs ys : List ℕ) → eq_bytes xs ys ≡ true → xs ≡ ys
unfolding eq_bytes
eq_bytes_lem [] [] e = refl
eq_bytes_lem [] (y ∷ ys) e = absurd (false≢true e)
eq_bytes_lem (x ∷ xs) [] e = absurd (false≢true e)
eq_bytes_lem (x ∷ xs) (y ∷ ys) e =
    let h = (and-eq-true_iff (eqb x y) (eq_bytes xs ys)).0 e in
    ap₂ (λ (z : ℕ) (zs : List ℕ). z ∷ zs) (eqb-true x y h.0) (eq_bytes_lem xs ys h.1)

pub eq_bytes_refl : (xs : List ℕ) → eq_bytes xs xs ≡ true
unfolding eq_bytes
eq_bytes_refl [] = refl
eq_bytes_refl (x ∷ xs) = rw (eq-eqb x x refl) (eq_bytes_refl xs)

pub bytes_eq : {xs ys : List ℕ} → xs ≡ ys → eq_bytes xs ys ≡ true
bytes_eq {xs} {ys} e = subst (λ (zs : List ℕ). eq_bytes xs zs ≡ true) e (eq_bytes_refl xs)

-- the first bytes are in order, or they are equal and the others are
lt_cases : (x : ℕ) (xs : List ℕ) (y : ℕ) (ys : List ℕ) → lt_bytes (x ∷ xs) (y ∷ ys) ≡ true → (x < y) ⊎ ((x ≡ y) × (lt_bytes xs ys ≡ true))
unfolding lt_bytes
lt_cases x xs y ys e = go (ltb x y) refl e
  where
    go : (b : Bool) → ltb x y ≡ b → (b || (eqb x y && lt_bytes xs ys)) ≡ true → (x < y) ⊎ ((x ≡ y) × (lt_bytes xs ys ≡ true))
    go true q e = inl (ltb-true x y q)
    go false q e = let h = (and-eq-true_iff (eqb x y) (lt_bytes xs ys)).0 e in inr (eqb-true x y h.0, h.1)

lt_here : (x : ℕ) (xs : List ℕ) (y : ℕ) (ys : List ℕ) → x < y → lt_bytes (x ∷ xs) (y ∷ ys) ≡ true
unfolding lt_bytes
lt_here x xs y ys h = rw (lt-ltb x y h)

lt_after : (x : ℕ) (xs ys : List ℕ) → lt_bytes (x ∷ xs) (x ∷ ys) ≡ lt_bytes xs ys
unfolding lt_bytes
lt_after x xs ys = rw (le-ltb x x (omega arith), eq-eqb x x refl)

pub lt_irrefl : (xs : List ℕ) → lt_bytes xs xs ≡ false
unfolding lt_bytes
lt_irrefl [] = refl
lt_irrefl (x ∷ xs) = lt_after x xs xs ∙ lt_irrefl xs

pub lt_trans : (xs ys zs : List ℕ) → lt_bytes xs ys ≡ true → lt_bytes ys zs ≡ true → lt_bytes xs zs ≡ true
unfolding lt_bytes
lt_trans [] [] zs p q = absurd (false≢true p)
lt_trans [] (y ∷ ys) [] p q = absurd (false≢true q)
lt_trans [] (y ∷ ys) (z ∷ zs) p q = refl
lt_trans (x ∷ xs) [] zs p q = absurd (false≢true p)
lt_trans (x ∷ xs) (y ∷ ys) [] p q = absurd (false≢true q)
lt_trans (x ∷ xs) (y ∷ ys) (z ∷ zs) p q = go (lt_cases x xs y ys p) (lt_cases y ys z zs q) (lt_trans xs ys zs)
  where
    go : (x < y) ⊎ ((x ≡ y) × (lt_bytes xs ys ≡ true)) → (y < z) ⊎ ((y ≡ z) × (lt_bytes ys zs ≡ true))
        → (lt_bytes xs ys ≡ true → lt_bytes ys zs ≡ true → lt_bytes xs zs ≡ true) → lt_bytes (x ∷ xs) (z ∷ zs) ≡ true
    go (inl a) (inl b) ih = lt_here x xs z zs (omega arith)
    go (inl a) (inr b) ih = lt_here x xs z zs (omega arith)
    go (inr a) (inl b) ih = lt_here x xs z zs (omega arith)
    go (inr a) (inr b) ih =
        subst (λ (w : ℕ). lt_bytes (x ∷ xs) (w ∷ zs) ≡ true) (a.0 ∙ b.0) (lt_after x xs zs ∙ ih a.1 b.1)

-- what comes before is another
pub lt_apart : (xs ys : List ℕ) → lt_bytes xs ys ≡ true → eq_bytes ys xs ≡ false
lt_apart xs ys h = go (eq_bytes ys xs) refl
  where
    go : (b : Bool) → eq_bytes ys xs ≡ b → eq_bytes ys xs ≡ false
    go true e = absurd (false≢true (sym (lt_irrefl xs) ∙ subst (λ (zs : List ℕ). lt_bytes xs zs ≡ true) (eq_bytes_lem ys xs e) h))
    go false e = e

pub ascending_tail : (x : List ℕ) (xs : List (List ℕ)) → ascending (x ∷ xs) ≡ true → ascending xs ≡ true
unfolding ascending
ascending_tail x [] a = refl
ascending_tail x (y ∷ ys) a = ((and-eq-true_iff (lt_bytes x y) (ascending (y ∷ ys))).0 a).1

-- the first comes before each of the others
pub ascending_above : (x : List ℕ) (xs : List (List ℕ)) → ascending (x ∷ xs) ≡ true → (y : List ℕ) → Memᴰ y xs → lt_bytes x y ≡ true
unfolding ascending
ascending_above x [] a y m = absurd (Memᴰ.not-nil m)
ascending_above x (z ∷ zs) a y (Memᴰ.head e) = subst (λ (w : List ℕ). lt_bytes x w ≡ true) (sym e)
    ((and-eq-true_iff (lt_bytes x z) (ascending (z ∷ zs))).0 a).0
ascending_above x (z ∷ zs) a y (Memᴰ.tail m) =
    let h = (and-eq-true_iff (lt_bytes x z) (ascending (z ∷ zs))).0 a in
    lt_trans x z y h.0 (ascending_above z zs h.1 y m)

abbrev pub Within : List (List ℕ) → List (List ℕ) → Type 0
Within cs bs = (x : List ℕ) → Memᴰ x cs → Memᴰ x bs

-- past a first name that is not the first of the other list
within_past : (c : List ℕ) (cs : List (List ℕ)) (b : List ℕ) (bs : List (List ℕ)) → ascending (c ∷ cs) ≡ true → lt_bytes b c ≡ true
    → Within (c ∷ cs) (b ∷ bs) → Within (c ∷ cs) bs
within_past c cs b bs p h w x m = go (Memᴰ.cases_cons (w x m))
  where
    above : (c ≡ x) ⊎ (lt_bytes c x ≡ true) → lt_bytes b x ≡ true
    above (inl e) = subst (λ (z : List ℕ). lt_bytes b z ≡ true) e h
    above (inr e) = lt_trans b c x h e

    later : (x ≡ c) ⊎ Memᴰ x cs → lt_bytes b x ≡ true
    later (inl e) = above (inl (sym e))
    later (inr n) = above (inr (ascending_above c cs p x n))

    go : (x ≡ b) ⊎ Memᴰ x bs → Memᴰ x bs
    go (inl e) = absurd (false≢true (sym (lt_irrefl b) ∙ subst (λ (z : List ℕ). lt_bytes b z ≡ true) e (later (Memᴰ.cases_cons m))))
    go (inr n) = n

-- past a first name that both have
within_both : (c : List ℕ) (cs : List (List ℕ)) (b : List ℕ) (bs : List (List ℕ)) → ascending (c ∷ cs) ≡ true → c ≡ b
    → Within (c ∷ cs) (b ∷ bs) → Within cs bs
within_both c cs b bs p h w x m = go (Memᴰ.cases_cons (w x (Memᴰ.tail m)))
  where
    go : (x ≡ b) ⊎ Memᴰ x bs → Memᴰ x bs
    go (inl e) = absurd (false≢true (sym (lt_irrefl c) ∙ subst (λ (z : List ℕ). lt_bytes c z ≡ true) (e ∙ sym h) (ascending_above c cs p x m)))
    go (inr n) = n

within_length : (cs bs : List (List ℕ)) → ascending cs ≡ true → ascending bs ≡ true → Within cs bs → length cs ≤ length bs
within_length [] bs p q w = omega arith
within_length (c ∷ cs) [] p q w = absurd (Memᴰ.not-nil (w c (Memᴰ.head refl)))
within_length (c ∷ cs) (b ∷ bs) p q w =
    go (Memᴰ.cases_cons (w c (Memᴰ.head refl))) (within_length cs bs (ascending_tail c cs p) (ascending_tail b bs q))
    (within_length (c ∷ cs) bs p (ascending_tail b bs q))
  where
    go : (c ≡ b) ⊎ Memᴰ c bs → (Within cs bs → length cs ≤ length bs) → (Within (c ∷ cs) bs → suc (length cs) ≤ length bs)
        → suc (length cs) ≤ suc (length bs)
    go (inl e) f g = omega (arith, f (within_both c cs b bs p e w))
    go (inr m) f g = omega (arith, g (within_past c cs b bs p (ascending_above b bs q c m) w))

-- one within the other, of equal length
pub within_same : (cs bs : List (List ℕ)) → ascending cs ≡ true → ascending bs ≡ true → Within cs bs → length cs ≡ length bs → cs ≡ bs
within_same [] [] p q w e = refl
within_same [] (b ∷ bs) p q w e = absurd (omega arith)
within_same (c ∷ cs) [] p q w e = absurd (omega arith)
within_same (c ∷ cs) (b ∷ bs) p q w e =
    go (Memᴰ.cases_cons (w c (Memᴰ.head refl))) (λ v. within_same cs bs (ascending_tail c cs p) (ascending_tail b bs q) v (omega arith))
  where
    go : (c ≡ b) ⊎ Memᴰ c bs → (Within cs bs → cs ≡ bs) → c ∷ cs ≡ b ∷ bs
    go (inl h) f = ap₂ (λ (z : List ℕ) (zs : List (List ℕ)). z ∷ zs) h (f (within_both c cs b bs p h w))
    go (inr m) f = absurd (omega (arith, within_length (c ∷ cs) bs p (ascending_tail b bs q) (within_past c cs b bs p (ascending_above b bs q c m) w)))
