-- Laws of the pairs that a plan has: of two runs, of two signatures and of two Objects' shared names. Assumes nothing.
use mathlib.Core.Path.{◌≡◌, refl, ap, subst}
use mathlib.Core.List.Memᴰ
use mathlib.Core.List.{List, [], ◌∷◌, ◌++◌, map, Memᴰ}
use mathlib.Core.Bool.{Bool, true, false}
use mathlib.Core.Option.{Option, none, some}
use mathlib.Core.Logic.{◌⊎◌, inl, inr}
use Prim.Native.Nat.{ℕ, suc, ◌+◌}
use native.Mathlib.Omega.{arith}
use lib.Dec.{eqb}
use lib.ListN.{length, length-map}
use borrow.Author.Tests.{eqb-true, eq-eqb}
use Rattle.scope.specs.Base.{pick, front, last}
use Rattle.scope.specs.Names.{Texts, Name, bytes_or, eq_bytes, ascending}
use Rattle.scope.specs.Types.{Ty, flip}
use Rattle.scope.specs.Answers.{Success, Failure, of_bool}
use Rattle.scope.specs.Unify.{Plan, answers, zipped, run_plan, seek, shared, shared_names, after, object_plan, signature_plan}
use Rattle.scope.proofs.Laws.{both_success}
use Rattle.scope.proofs.NameLaws.{eq_bytes_lem, bytes_eq, lt_apart, ascending_tail, ascending_above, Within, within_same}

-- a pair of a type of the first list and one of the second, inverted if i
pub record Between (i : Bool) (xs ys : List Ty) (p : Ty × Ty) : Type 0 where
  pub left : Memᴰ p.0 xs
  pub other : Ty
  pub right : Memᴰ other ys
  pub turned : p.1 ≡ flip i other

abbrev pub Betweens : Bool → List Ty → List Ty → List (Ty × Ty) → Type 0
Betweens i xs ys ps = (p : Ty × Ty) → Memᴰ p ps → Between i xs ys p

pub between_nil : {i : Bool} {xs ys : List Ty} → Betweens i xs ys []
between_nil p w = absurd (Memᴰ.not-nil w)

between_cons : {i : Bool} {xs ys : List Ty} (x y : Ty) {ps : List (Ty × Ty)} → Memᴰ x xs → Memᴰ y ys → Betweens i xs ys ps
    → Betweens i xs ys ((x, flip i y) ∷ ps)
between_cons x y a b h p (Memᴰ.head q) =
    record { left = Memᴰ.cast (ap (λ (z : Ty × Ty). z.0) q) a; other = y; right = b; turned = ap (λ (z : Ty × Ty). z.1) q }
between_cons x y a b h p (Memᴰ.tail w) = h p w

between_more : {i : Bool} {xs ys xs' ys' : List Ty} {ps : List (Ty × Ty)} → ((x : Ty) → Memᴰ x xs → Memᴰ x xs')
    → ((y : Ty) → Memᴰ y ys → Memᴰ y ys') → Betweens i xs ys ps → Betweens i xs' ys' ps
between_more f g h p w =
    let b = h p w in
    record { left = f p.0 b.left; other = b.other; right = g b.other b.right; turned = b.turned }

pub between_pick : {i : Bool} {xs ys : List Ty} (b : Bool) (l m : Plan) → Betweens i xs ys l.pairs → Betweens i xs ys m.pairs
    → Betweens i xs ys (pick b l m).pairs
between_pick true l m f g = f
between_pick false l m f g = g

zipped_between : (i : Bool) (xs ys : List Ty) → Betweens i xs ys (zipped i xs ys)
unfolding zipped
zipped_between i [] ys = between_nil
zipped_between i (x ∷ xs) [] = between_nil
zipped_between i (x ∷ xs) (y ∷ ys) =
    between_cons x y (Memᴰ.head refl) (Memᴰ.head refl) (between_more (λ z w. Memᴰ.tail w) (λ z w. Memᴰ.tail w) (zipped_between i xs ys))

pub run_between : (i : Bool) (xs ys : List Ty) → Betweens i xs ys (run_plan i xs ys).pairs
unfolding run_plan
run_between i xs ys = between_pick (eqb (length xs) (length ys)) (record { base = Success; pairs = zipped i xs ys }) (answers Failure)
    (zipped_between i xs ys) between_nil

pub front_in : (xs : List Ty) (x : Ty) → Memᴰ x (front xs) → Memᴰ x xs
front_in [] x w = w
front_in (y ∷ []) x w = absurd (Memᴰ.not-nil w)
front_in (y ∷ z ∷ zs) x (Memᴰ.head e) = Memᴰ.head e
front_in (y ∷ z ∷ zs) x (Memᴰ.tail w) = Memᴰ.tail (front_in (z ∷ zs) x w)

pub last_in : (xs : List Ty) (x : Ty) → Memᴰ x (last xs) → Memᴰ x xs
last_in [] x w = w
last_in (y ∷ []) x w = w
last_in (y ∷ z ∷ zs) x w = Memᴰ.tail (last_in (z ∷ zs) x w)

pub signature_between : (i : Bool) (xs ys : List Ty) → Betweens i xs ys (signature_plan i xs ys).pairs
unfolding signature_plan
signature_between i xs ys p w = go (Memᴰ.append_cases (run_plan i (front xs) (front ys)).pairs w)
  where
    go : Memᴰ p (run_plan i (front xs) (front ys)).pairs ⊎ Memᴰ p (run_plan i (last xs) (last ys)).pairs → Between i xs ys p
    go (inl w) = between_more (front_in xs) (front_in ys) (run_between i (front xs) (front ys)) p w
    go (inr w) = between_more (last_in xs) (last_in ys) (run_between i (last xs) (last ys)) p w

-- what is found is one of the types, and its name one of the names
seek_in : (x : Texts) (n : List ℕ) (ms : List (Option Name)) (us : List Ty) (u : Ty) → seek x n ms us ≡ some u
    → Memᴰ u us × Memᴰ n (map (bytes_or x) ms)
unfolding seek
seek_in x n [] us u e = let z : ◌≡◌ {A = ℕ} 0 1 = cc in absurd (omega arith)
seek_in x n (m ∷ ms) [] u e = let z : ◌≡◌ {A = ℕ} 0 1 = cc in absurd (omega arith)
seek_in x n (m ∷ ms) (t ∷ us) u e = go (eq_bytes n (bytes_or x m)) refl e (seek_in x n ms us u)
  where
    go : (b : Bool) → eq_bytes n (bytes_or x m) ≡ b → pick b (some t) (seek x n ms us) ≡ some u
        → (seek x n ms us ≡ some u → Memᴰ u us × Memᴰ n (map (bytes_or x) ms)) → Memᴰ u (t ∷ us) × Memᴰ n (map (bytes_or x) (m ∷ ms))
    go true q e ih = let h : u ≡ t = cc in (Memᴰ.head h, Memᴰ.head (eq_bytes_lem n (bytes_or x m) q))
    go false q e ih = let h = ih e in (Memᴰ.tail h.0, Memᴰ.tail h.1)

pub shared_between : (x : Texts) (i : Bool) (ns : List (Option Name)) (ts : List Ty) (ms : List (Option Name)) (us : List Ty)
    → Betweens i ts us (shared_names x i ns ts ms us).pairs
unfolding shared_names
shared_between x i [] ts ms us = between_nil
shared_between x i (n ∷ ns) [] ms us = between_nil
shared_between x i (n ∷ ns) (t ∷ ts) ms us = go (seek x (bytes_or x n) ms us) refl
    (between_more (λ z w. Memᴰ.tail w) (λ z w. w) (shared_between x i ns ts ms us))
  where
    go : (o : Option Ty) → seek x (bytes_or x n) ms us ≡ o → Betweens i (t ∷ ts) us (shared_names x i ns ts ms us).pairs
        → Betweens i (t ∷ ts) us (after (shared i t o) (shared_names x i ns ts ms us)).pairs
    go none q h = h
    go (some u) q h = between_cons t u (Memᴰ.head refl) (seek_in x (bytes_or x n) ms us u q).0 h

-- all pairs of two lists
abbrev pub whole : Bool → List Ty → List Ty → Plan
whole i xs ys = record { base = Success; pairs = zipped i xs ys }

pub run_whole : (i : Bool) (xs ys : List Ty) → length xs ≡ length ys → run_plan i xs ys ≡ whole i xs ys
unfolding run_plan
run_whole i xs ys e = rw (eq-eqb (length xs) (length ys) e)

pub run_lengths : (i : Bool) (xs ys : List Ty) → (run_plan i xs ys).base ≡ Success → length xs ≡ length ys
unfolding run_plan
run_lengths i xs ys b = go (eqb (length xs) (length ys)) refl b
  where
    go : (t : Bool) → eqb (length xs) (length ys) ≡ t → (pick t (whole i xs ys) (answers Failure)).base ≡ Success → length xs ≡ length ys
    go true q b = eqb-true (length xs) (length ys) q
    go false q b = let z : ◌≡◌ {A = ℕ} 0 1 = cc in absurd (omega arith)

-- the front and the last are all, and so are their pairs
parts_length : (xs : List Ty) → length (front xs) + length (last xs) ≡ length xs
parts_length [] = refl
parts_length (x ∷ []) = refl
parts_length (x ∷ y ∷ ys) = omega (arith, parts_length (y ∷ ys))

front_length : (xs ys : List Ty) → length xs ≡ length ys → length (front xs) ≡ length (front ys)
front_length [] [] e = refl
front_length [] (y ∷ ys) e = absurd (omega arith)
front_length (x ∷ xs) [] e = absurd (omega arith)
front_length (x ∷ []) (y ∷ []) e = refl
front_length (x ∷ []) (y ∷ z ∷ zs) e = absurd (omega arith)
front_length (x ∷ z ∷ zs) (y ∷ []) e = absurd (omega arith)
front_length (x ∷ z ∷ zs) (y ∷ w ∷ ws) e = ap suc (front_length (z ∷ zs) (w ∷ ws) (omega arith))

zipped_parts : (i : Bool) (xs ys : List Ty) → length xs ≡ length ys
    → zipped i (front xs) (front ys) ++ zipped i (last xs) (last ys) ≡ zipped i xs ys
unfolding zipped
zipped_parts i [] [] e = refl
zipped_parts i [] (y ∷ ys) e = absurd (omega arith)
zipped_parts i (x ∷ xs) [] e = absurd (omega arith)
zipped_parts i (x ∷ []) (y ∷ []) e = refl
zipped_parts i (x ∷ []) (y ∷ z ∷ zs) e = absurd (omega arith)
zipped_parts i (x ∷ z ∷ zs) (y ∷ []) e = absurd (omega arith)
zipped_parts i (x ∷ z ∷ zs) (y ∷ w ∷ ws) e = ap (λ (ps : List (Ty × Ty)). (x, flip i y) ∷ ps) (zipped_parts i (z ∷ zs) (w ∷ ws) (omega arith))

pub signature_whole : (i : Bool) (xs ys : List Ty) → length xs ≡ length ys → signature_plan i xs ys ≡ whole i xs ys
unfolding signature_plan
signature_whole i xs ys e =
    let p = front_length xs ys e in
    rw (run_whole i (front xs) (front ys) p, run_whole i (last xs) (last ys) (omega (arith, parts_length xs, parts_length ys)))
    (ap (λ (ps : List (Ty × Ty)). record { base = Success; pairs = ps }) (zipped_parts i xs ys e))

pub signature_lengths : (i : Bool) (xs ys : List Ty) → (signature_plan i xs ys).base ≡ Success → length xs ≡ length ys
unfolding signature_plan
signature_lengths i xs ys b =
    let h = both_success (run_plan i (front xs) (front ys)).base (run_plan i (last xs) (last ys)).base b in
    omega (arith, run_lengths i (front xs) (front ys) h.0, run_lengths i (last xs) (last ys) h.1, parts_length xs, parts_length ys)

-- a name that stands nowhere before may be left out of what is sought in
shared_past : (x : Texts) (i : Bool) (ns : List (Option Name)) (ts : List Ty) (m : Option Name) (ms : List (Option Name)) (u : Ty) (us : List Ty)
    → ((n : List ℕ) → Memᴰ n (map (bytes_or x) ns) → eq_bytes n (bytes_or x m) ≡ false)
    → shared_names x i ns ts (m ∷ ms) (u ∷ us) ≡ shared_names x i ns ts ms us
unfolding shared_names seek
shared_past x i [] ts m ms u us h = refl
shared_past x i (n ∷ ns) [] m ms u us h = refl
shared_past x i (n ∷ ns) (t ∷ ts) m ms u us h =
    rw (h (bytes_or x n) (Memᴰ.head refl), shared_past x i ns ts m ms u us (λ b w. h b (Memᴰ.tail w)))

-- equal names, strictly ascending: all pairs
pub shared_whole : (x : Texts) (i : Bool) (ns : List (Option Name)) (ts : List Ty) (ms : List (Option Name)) (us : List Ty)
    → map (bytes_or x) ns ≡ map (bytes_or x) ms → ascending (map (bytes_or x) ms) ≡ true → length ns ≡ length ts → length ms ≡ length us
    → shared_names x i ns ts ms us ≡ whole i ts us
unfolding shared_names seek zipped
shared_whole x i [] [] ms us q a p r = refl
shared_whole x i [] (t ∷ ts) ms us q a p r = absurd (omega arith)
shared_whole x i (n ∷ ns) ts [] us q a p r = let z : ◌≡◌ {A = ℕ} 0 1 = cc in absurd (omega arith)
shared_whole x i (n ∷ ns) [] (m ∷ ms) us q a p r = absurd (omega arith)
shared_whole x i (n ∷ ns) (t ∷ ts) (m ∷ ms) [] q a p r = absurd (omega arith)
shared_whole x i (n ∷ ns) (t ∷ ts) (m ∷ ms) (u ∷ us) q a p r =
    let hn : bytes_or x n ≡ bytes_or x m = cc in
    let hs : map (bytes_or x) ns ≡ map (bytes_or x) ms = cc in
    let above : (b : List ℕ) → Memᴰ b (map (bytes_or x) ns) → eq_bytes b (bytes_or x m) ≡ false
    = λ b w. lt_apart (bytes_or x m) b (ascending_above (bytes_or x m) (map (bytes_or x) ms) a b (subst (Memᴰ b) hs w)) in
    rw (
      bytes_eq hn,
      shared_past x i ns ts m ms u us above,
      shared_whole x i ns ts ms us hs (ascending_tail (bytes_or x m) (map (bytes_or x) ms) a)
          (omega arith) (omega arith),
    )

-- from Success each name was found
shared_within : (x : Texts) (i : Bool) (ns : List (Option Name)) (ts : List Ty) (ms : List (Option Name)) (us : List Ty) → length ns ≡ length ts
    → (shared_names x i ns ts ms us).base ≡ Success → Within (map (bytes_or x) ns) (map (bytes_or x) ms)
unfolding shared_names
shared_within x i [] ts ms us p b n w = absurd (Memᴰ.not-nil w)
shared_within x i (n ∷ ns) [] ms us p b l w = absurd (omega arith)
shared_within x i (n ∷ ns) (t ∷ ts) ms us p b l w = go (seek x (bytes_or x n) ms us) refl b (λ c. shared_within x i ns ts ms us (omega arith) c l)
    (Memᴰ.cases_cons w)
  where
    go : (o : Option Ty) → seek x (bytes_or x n) ms us ≡ o → (after (shared i t o) (shared_names x i ns ts ms us)).base ≡ Success
        → ((shared_names x i ns ts ms us).base ≡ Success → Memᴰ l (map (bytes_or x) ns) → Memᴰ l (map (bytes_or x) ms))
        → (l ≡ bytes_or x n) ⊎ Memᴰ l (map (bytes_or x) ns) → Memᴰ l (map (bytes_or x) ms)
    go none q b ih c = let z : ◌≡◌ {A = ℕ} 0 1 = cc in absurd (omega arith)
    go (some u) q b ih (inl e) = Memᴰ.cast e (seek_in x (bytes_or x n) ms us u q).1
    go (some u) q b ih (inr w) = ih b w

pub record SameNames (x : Texts) (ns ms : List (Option Name)) (ts us : List Ty) : Type 0 where
  pub names : map (bytes_or x) ns ≡ map (bytes_or x) ms
  pub lengths : length ts ≡ length us

pub object_names : (x : Texts) (i : Bool) (ns : List (Option Name)) (ts : List Ty) (ms : List (Option Name)) (us : List Ty)
    → length ns ≡ length ts → length ms ≡ length us → ascending (map (bytes_or x) ns) ≡ true → ascending (map (bytes_or x) ms) ≡ true
    → (object_plan x i ns ts ms us).base ≡ Success → SameNames x ns ms ts us
unfolding object_plan
object_names x i ns ts ms us p r a c b =
    let h = both_success (of_bool (eqb (length ts) (length us))) (shared_names x i ns ts ms us).base b in
    let e : length ts ≡ length us = go (eqb (length ts) (length us)) refl h.0 in
    record {
      names = within_same (map (bytes_or x) ns) (map (bytes_or x) ms) a c (shared_within x i ns ts ms us p h.1)
          (omega (arith, length-map ns (bytes_or x), length-map ms (bytes_or x)));
      lengths = e;
    }
  where
    go : (t : Bool) → eqb (length ts) (length us) ≡ t → of_bool t ≡ Success → length ts ≡ length us
    go true q b = eqb-true (length ts) (length us) q
    go false q b = let z : ◌≡◌ {A = ℕ} 0 1 = cc in absurd (omega arith)
