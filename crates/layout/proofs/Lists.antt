-- Words in lists: stores over a whole part leave what was stored, a list with a part put in has the old words before and after it, and a list made
-- over the numbers from i on has its j-th entry at i + j. Nothing here knows what a word means.
-- Assumes nothing.
use mathlib.Core.Path.{◌≡◌, refl, ap, sym, ◌∙◌}
use mathlib.Core.Bool.{Bool, true, false, ◌&&◌, false≢true}
use mathlib.Core.List.{List, [], ◌∷◌, ◌++◌, append-nil, map, map-append}
use Prim.Native.Nat.{ℕ, zero, suc, ◌+◌, ◌-◌, ◌<◌, ◌≤◌}
use native.Mathlib.Omega.{arith}
use native.Mathlib.Nat.{add-sub_cancel_left}
use lib.ListN.{length, get_or, take, drop, take-append-drop, length-drop, drop_of_length-le}
use lib.Seq.{sets, sets-eq, take_at, drop_at, take-append-le, drop-append-le, drop-drop, length-take-le}
use borrow.Rule.Slice.PartMut.{mid_of, put_mid, drop_put, same_len_mid}
use lib.Dec.{ltb}
use borrow.Author.Tests.{ltb-true, ltb-false}
use native.Mathlib.Numerals.{add-one}
use Rattle.std.specs.List.{list_all, range_with_len}
use Rattle.scope.specs.Base.{all, from}
use Rattle.scope.proofs.Sizes.{all_from, from_all}
pub use Rattle.scope.proofs.TestLaws.{and_both, and_left, and_right}

-- stores over the whole of a list leave what was stored
pub sets_all : (l vs : List ℕ) → length l ≡ length vs → sets l 0 vs ≡ vs
sets_all l vs h =
    let z : drop (0 + length vs) l ≡ [] = drop_of_length-le l {i = 0 + length vs} (omega arith) in
    sets-eq vs l 0 (omega arith) ∙ rw z (append-nil vs)

-- parts

pub drop_later : (e b : ℕ) (xs ys : List ℕ) → e ≤ b → drop e xs ≡ drop e ys → drop b xs ≡ drop b ys
drop_later e b xs ys h q =
    let z : e + (b - e) ≡ b = omega arith in
    rw (← z) (sym (drop-drop (b - e) e xs) ∙ (ap (drop (b - e)) q ∙ drop-drop (b - e) e ys))

module _ (a k : ℕ) (xs ys : List ℕ) (e : length ys ≡ k) (h : a + k ≤ length xs) where
  -- the part put in
  pub part_here : mid_of a k (put_mid a k xs ys) ≡ ys
  part_here = rw (drop_at (take a xs) (ys ++ drop k (drop a xs)) a (length-take-le a xs (omega arith))) (take_at ys (drop k (drop a xs)) k e)

  -- what lies after it
  pub drop_past : (b : ℕ) → a + k ≤ b → drop b (put_mid a k xs ys) ≡ drop b xs
  drop_past b g =
      drop_later (a + k) b (put_mid a k xs ys) xs g
      (rw add-sub_cancel_left at (drop_put a (a + k) xs ys (omega arith) h (rw add-sub_cancel_left e)))

  pub part_after : (b j : ℕ) → a + k ≤ b → mid_of b j (put_mid a k xs ys) ≡ mid_of b j xs
  part_after b j g = ap (take j) (drop_past b g)

-- what lies before a cut
part_cut : (b j a : ℕ) (xs ys : List ℕ) → b + j ≤ a → a ≤ length xs → mid_of b j (take a xs ++ ys) ≡ mid_of b j (take a xs)
part_cut b j a xs ys g h =
    let l : length (take a xs) ≡ a = length-take-le a xs h in
    rw (drop-append-le b (take a xs) ys (omega arith))
    (take-append-le j (drop b (take a xs)) ys (simp length-drop (omega arith)))

pub part_before : (b j a : ℕ) (xs ys : List ℕ) → b + j ≤ a → a ≤ length xs → mid_of b j (take a xs ++ ys) ≡ mid_of b j xs
part_before b j a xs ys g h =
    part_cut b j a xs ys g h ∙ (sym (part_cut b j a xs (drop a xs) g h) ∙ ap (mid_of b j) (take-append-drop a xs))

-- another part of the same length
part_by : (t : Bool) (a k b : ℕ) (xs ys : List ℕ) → length ys ≡ k → a + k ≤ length xs → (b < a → b + k ≤ a) → (a ≤ b → a + k ≤ b) → ltb b a ≡ t
    → mid_of b k (put_mid a k xs ys) ≡ mid_of b k xs
part_by true a k b xs ys e h p q t = part_before b k a xs (ys ++ drop k (drop a xs)) (p (ltb-true b a t)) (omega arith)
part_by false a k b xs ys e h p q t = part_after a k xs ys e h b k (q (ltb-false b a t))

pub part_other : (a k b : ℕ) (xs ys : List ℕ) → length ys ≡ k → a + k ≤ length xs → (b < a → b + k ≤ a) → (a ≤ b → a + k ≤ b)
    → mid_of b k (put_mid a k xs ys) ≡ mid_of b k xs
part_other a k b xs ys e h p q = part_by (ltb b a) a k b xs ys e h p q refl

pub length_part : (a k : ℕ) (xs ys : List ℕ) → length ys ≡ k → a + k ≤ length xs → length (put_mid a k xs ys) ≡ length xs
length_part a k xs ys e h = same_len_mid a k xs ys (e ∙ sym (length-take-le k (drop a xs) (simp length-drop (omega arith))))

-- over the numbers from i on

pub length_from : {A : Type 0} (f : ℕ → A) (i n : ℕ) → length (map f (from i n)) ≡ n
length_from f i zero = refl
length_from f i (suc n) = ap suc (length_from f (suc i) n)

pub get_from : {A : Type 0} (f : ℕ → A) (i n j : ℕ) (d : A) → j < n → get_or (map f (from i n)) j d ≡ f (i + j)
get_from f i zero j d h = absurd (omega arith)
get_from f i (suc n) zero d h = ap f (omega arith)
get_from f i (suc n) (suc j) d h = get_from f (suc i) n j d (omega arith) ∙ ap f (omega arith)

pub from_snoc : (i n : ℕ) → from i (suc n) ≡ from i n ++ ((i + n) ∷ [])
from_snoc i zero = ap (λ (j : ℕ). j ∷ []) (omega arith)
from_snoc i (suc n) =
    let z : suc i + n ≡ i + suc n = omega arith in
    ap (λ (l : List ℕ). i ∷ l) (from_snoc (suc i) n ∙ ap (λ (j : ℕ). from (suc i) n ++ (j ∷ [])) z)

pub map_snoc : {A : Type 0} (f : ℕ → A) (i n : ℕ) → map f (from i (suc n)) ≡ map f (from i n) ++ (f (i + n) ∷ [])
map_snoc f i n = ap (map f) (from_snoc i n) ∙ map-append f (from i n) ((i + n) ∷ [])

pub same_from : {A : Type 0} (f g : ℕ → A) (i n : ℕ) → ((j : ℕ) → i ≤ j → j < i + n → f j ≡ g j) → map f (from i n) ≡ map g (from i n)
same_from f g i zero e = refl
same_from f g i (suc n) e =
    rw (e i (omega arith) (omega arith), same_from f g (suc i) n (λ j a b. e j (omega arith) (omega arith)))

-- the same of two runs
pub same_shift : {A : Type 0} (f g : ℕ → A) (a b n : ℕ) → ((i : ℕ) → i < n → f (a + i) ≡ g (b + i)) → map f (from a n) ≡ map g (from b n)
same_shift f g a b zero e = refl
same_shift f g a b (suc n) e =
    let x : a + 0 ≡ a = omega arith in
    let y : b + 0 ≡ b = omega arith in
    let first : f a ≡ g b = ap f (sym x) ∙ (e 0 (omega arith) ∙ ap g y) in
    let next : (i : ℕ) → i < n → f (suc a + i) ≡ g (suc b + i) =
    λ i h.
    let p : suc a + i ≡ a + suc i = omega arith in
    let q : b + suc i ≡ suc b + i = omega arith in
    ap f p ∙ (e (suc i) (omega arith) ∙ ap g q) in
    rw (first, same_shift f g (suc a) (suc b) n next) refl

-- a test of what f makes of each
pub all_map : {A B : Type 0} (q : B → Bool) (f : A → B) (l : List A) → all q (map f l) ≡ all (λ i. q (f i)) l
all_map q f [] = refl
all_map q f (i ∷ l) = ap (λ (b : Bool). q (f i) && b) (all_map q f l)

-- a test of each of the kit's
pub all_list : {A : Type 0} (p : A → Bool) (l : List A) → list_all p l ≡ all p l
all_list p [] = refl
all_list p (x ∷ l) = ap (λ (b : Bool). p x && b) (all_list p l)

-- the numbers of a range are those from its start on
pub all_range : (p : ℕ → Bool) (a n : ℕ) → list_all p (range_with_len a n) ≡ all p (from a n)
all_range p a zero = refl
all_range p a (suc n) = ap (λ (b : Bool). p a && b) (rw add-one (all_range p (suc a) n))

-- a loop over the numbers below n has two ways out: the test fails at v, or has held of each number below v
pub all_stop : (p : ℕ → Bool) (n v : ℕ) → v < n → p v ≡ false → false ≡ all p (from 0 n)
all_stop p n v l e = go (all p (from 0 n)) refl
  where
    go : (b : Bool) → all p (from 0 n) ≡ b → false ≡ b
    go true q = absurd (false≢true (sym e ∙ from_all p 0 n q v (omega arith) (omega arith)))
    go false q = refl

pub all_done : (p : ℕ → Bool) (n v : ℕ) → n ≤ v → ((u : ℕ) → u < v → p u ≡ true) → true ≡ all p (from 0 n)
all_done p n v l f = sym (all_from p 0 n (λ u a b. f u (omega arith)))
