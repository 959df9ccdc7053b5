-- Tests over runs of numbers, and root sizes: each is its tree's node count, which joins and new nodes keep; they add up to the node count, and
-- a tree of at most 4,096 nodes is at most twelve steps deep. Assumes nothing.
use mathlib.Core.Path.{◌≡◌, refl, sym, ap, ◌∙◌}
use mathlib.Core.List.{List, [], ◌∷◌, ◌++◌}
use mathlib.Core.Bool.{Bool, true, false}
use mathlib.Core.Logic.{◌≢◌, ◌⊎◌, inl, inr}
use Prim.Native.Nat.{ℕ, zero, suc, ◌+◌, ◌-◌, ◌^◌, ◌≤◌, ◌<◌}
use native.Mathlib.Nat.{not-suc-le-zero}
use native.Mathlib.Omega.{arith}
use native.Mathlib.Decide.{ℕ_discrete, dec_lt}
use lib.Dec.{eqb}
use lib.ListN.{length}
use lib.Pow.{pow_mono}
use borrow.Author.Tests.{eq-eqb, ne_eqb}
use Rattle.scope.specs.Base.{pick, all, count, from}
use Rattle.scope.specs.Limits.{MAX_NODES}
use Rattle.scope.specs.Types.{Ty, ty, flip}
use Rattle.scope.specs.Nodes.{Node, Root, Child, at, is_root, size_of}
use Rattle.scope.specs.Sound.{rooted, rooted_node, tree_size}
use Rattle.scope.specs.Demand.{sizes}
use Rattle.scope.proofs.TestLaws.{and_left, and_right, and_both}
use Rattle.scope.proofs.View.{View, VState, link, view}
use Rattle.scope.proofs.ViewLaws.{same?, sel_yes, sel_no, rep_hit, rep_miss}
use Rattle.scope.proofs.Paths.{Leads, top, up, leads_inside, Lead, Forest, rep_inside}
use Rattle.scope.proofs.Merge.{Shallow}

-- every number of a run passes a test
pub all_from : (p : ℕ → Bool) (i n : ℕ) → ((j : ℕ) → i ≤ j → j < i + n → p j ≡ true) → all p (from i n) ≡ true
all_from p i zero h = refl
all_from p i (suc n) h = and_both (p i) (all p (from (suc i) n)) (h i (omega arith) (omega arith)) (all_from p (suc i) n (λ j a b. h j (omega arith) (omega arith)))

pub from_all : (p : ℕ → Bool) (i n : ℕ) → all p (from i n) ≡ true → (j : ℕ) → i ≤ j → j < i + n → p j ≡ true
from_all p i zero e j a b = absurd (omega arith)
from_all p i (suc n) e j a b = go (same? i j) (from_all p (suc i) n (and_right (p i) (all p (from (suc i) n)) e) j)
  where
    go : (i ≡ j) ⊎ (i ≢ j) → (suc i ≤ j → j < suc i + n → p j ≡ true) → p j ≡ true
    go (inl q) ih = ap p (sym q) ∙ and_left (p i) (all p (from (suc i) n)) e
    go (inr q) ih = ih (omega arith) (omega arith)

pub length_from : (i n : ℕ) → length (from i n) ≡ n
length_from i zero = refl
length_from i (suc n) = ap suc (length_from (suc i) n)

from_append : (i n m : ℕ) → from i (n + m) ≡ from i n ++ from (i + n) m
from_append i zero m =
    let a : 0 + m ≡ m = omega arith in
    let b : i ≡ i + 0 = omega arith in
    ap (from i) a ∙ ap (λ (k : ℕ). from k m) b
from_append i (suc n) m =
    let a : suc n + m ≡ suc (n + m) = omega arith in
    let b : suc i + n ≡ i + suc n = omega arith in
    ap (from i) a ∙ ap (λ (xs : List ℕ). i ∷ xs) (from_append (suc i) n m ∙ ap (λ (k : ℕ). from (suc i) n ++ from k m) b)

-- one for a passed test
abbrev pub unit : Bool → ℕ
unit b = pick b 1 0

unit_le : (b : Bool) → unit b ≤ 1
unit_le true = omega arith
unit_le false = omega arith

pub count_le : (p : ℕ → Bool) (xs : List ℕ) → count p xs ≤ length xs
count_le p [] = omega arith
count_le p (x ∷ xs) = omega (arith, unit_le (p x), count_le p xs)

count_append : (p : ℕ → Bool) (xs ys : List ℕ) → count p (xs ++ ys) ≡ count p xs + count p ys
count_append p [] ys = omega arith
count_append p (x ∷ xs) ys = omega (arith, count_append p xs ys)

-- a run's first n numbers, and the rest
pub count_split : (p : ℕ → Bool) (n m : ℕ) → n ≤ m → count p (from 0 m) ≡ count p (from 0 n) + count p (from n (m - n))
count_split p n m h =
    let a : m ≡ n + (m - n) = omega arith in
    let b : 0 + n ≡ n = omega arith in
    ap (λ (k : ℕ). count p (from 0 k)) a ∙ ap (count p) (from_append 0 n (m - n) ∙ ap (λ (k : ℕ). from 0 n ++ from k (m - n)) b)
    ∙ count_append p (from 0 n) (from n (m - n))

pub count_sum : (p q r : ℕ → Bool) → ((x : ℕ) → unit (r x) ≡ unit (p x) + unit (q x)) → (xs : List ℕ) → count r xs ≡ count p xs + count q xs
count_sum p q r h [] = omega arith
count_sum p q r h (x ∷ xs) = omega (arith, h x, count_sum p q r h xs)

pub count_none : (p : ℕ → Bool) (i n : ℕ) → ((j : ℕ) → i ≤ j → j < i + n → p j ≡ false) → count p (from i n) ≡ 0
count_none p i zero h = refl
count_none p i (suc n) h = omega (arith, ap unit (h i (omega arith) (omega arith)), count_none p (suc i) n (λ j a b. h j (omega arith) (omega arith)))

pub count_same : (p q : ℕ → Bool) (i n : ℕ) → ((j : ℕ) → i ≤ j → j < i + n → p j ≡ q j) → count p (from i n) ≡ count q (from i n)
count_same p q i zero h = refl
count_same p q i (suc n) h = omega (arith, ap unit (h i (omega arith) (omega arith)), count_same p q (suc i) n (λ j a b. h j (omega arith) (omega arith)))

pub eqb_sym : (a b : ℕ) → eqb a b ≡ eqb b a
eqb_sym a b = go (same? a b)
  where
    go : (a ≡ b) ⊎ (a ≢ b) → eqb a b ≡ eqb b a
    go (inl e) = eq-eqb a b e ∙ sym (eq-eqb b a (sym e))
    go (inr e) = ne_eqb a b e ∙ sym (ne_eqb b a (λ q. e (sym q)))

-- a number stands once in a run
pub count_one : (r i n : ℕ) → i ≤ r → r < i + n → count (eqb r) (from i n) ≡ 1
count_one r i zero a b = absurd (omega arith)
count_one r i (suc n) a b = go (same? r i) (count_one r (suc i) n)
  where
    go : (r ≡ i) ⊎ (r ≢ i) → (suc i ≤ r → r < suc i + n → count (eqb r) (from (suc i) n) ≡ 1) → unit (eqb r i) + count (eqb r) (from (suc i) n) ≡ 1
    go (inl q) ih = omega (arith, ap unit (eq-eqb r i q), count_none (eqb r) (suc i) n (λ j c d. ne_eqb r j (λ e. absurd (omega arith))))
    go (inr q) ih = omega (arith, ap unit (ne_eqb r i q), ih (omega arith) (omega arith))

-- numbers added up
add : (ℕ → ℕ) → List ℕ → ℕ
add f [] = 0
add f (x ∷ xs) = f x + add f xs

add_same : (f g : ℕ → ℕ) (i n : ℕ) → ((j : ℕ) → i ≤ j → j < i + n → f j ≡ g j) → add f (from i n) ≡ add g (from i n)
unfolding add
add_same f g i zero h = refl
add_same f g i (suc n) h = omega (arith, h i (omega arith) (omega arith), add_same f g (suc i) n (λ j a b. h j (omega arith) (omega arith)))

add_ones : (xs : List ℕ) → add (λ x. 1) xs ≡ length xs
unfolding add
add_ones [] = refl
add_ones (x ∷ xs) = omega (arith, add_ones xs)

add_zeros : (xs : List ℕ) → add (λ x. 0) xs ≡ 0
unfolding add
add_zeros [] = refl
add_zeros (x ∷ xs) = omega (arith, add_zeros xs)

-- pairs that pass, counted either way
add_split : (p : ℕ → Bool) (f : ℕ → ℕ) (is : List ℕ) → add (λ i. unit (p i) + f i) is ≡ count p is + add f is
unfolding add
add_split p f [] = omega arith
add_split p f (i ∷ is) = omega (arith, add_split p f is)

add_swap : (p : ℕ → ℕ → Bool) (is js : List ℕ) → add (λ i. count (λ j. p j i) js) is ≡ add (λ j. count (p j) is) js
unfolding add
add_swap p is [] = add_zeros is
add_swap p is (j ∷ js) = omega (arith, add_split (p j) (λ i. count (λ j. p j i) js) is, add_swap p is js)

add_sizes : (ns : List Node) (f : ℕ → ℕ) (k : ℕ) → ((i : ℕ) → f (k + i) ≡ size_of (at ns i)) → add f (from k (length ns)) ≡ sizes ns
unfolding add sizes
add_sizes [] f k h = refl
add_sizes (x ∷ ns) f k h = omega (arith, ap f (sym (k_plus k)) ∙ h 0, add_sizes ns f (suc k) (λ i. ap f (k_suc k i) ∙ h (suc i)))
  where
    k_plus : (k : ℕ) → k + 0 ≡ k
    k_plus k = omega arith

    k_suc : (k i : ℕ) → suc k + i ≡ k + suc i
    k_suc k i = omega arith

-- each root's size is its tree's node count, n nodes in all; a node that is no root has neither
abbrev pub Sized : ℕ → View → Type 0
Sized n g = (i : ℕ) → i < n → g.sz i ≡ count (λ j. eqb (g.rep j).idx i) (from 0 n)

pub sized_tree : (ns : List Node) → Sized (length ns) (view ns) → (i : ℕ) → i < length ns → size_of (at ns i) ≡ tree_size ns i
unfolding view tree_size
sized_tree ns ok i h = ok i h

pub size_le : (n : ℕ) (g : View) → Sized n g → (i : ℕ) → i < n → g.sz i ≤ n
size_le n g ok i h = omega (arith, ok i h, count_le (λ j. eqb (g.rep j).idx i) (from 0 n), length_from 0 n)

-- root sizes add up to the node count
pub sizes_length : (ns : List Node) → Forest ns → Sized (length ns) (view ns) → sizes ns ≡ length ns
unfolding view
sizes_length ns ok sized =
    let is : List ℕ = from 0 (length ns) in
    sym (add_sizes ns (λ i. size_of (at ns i)) 0 (λ i. ap (λ (x : ℕ). size_of (at ns x)) (omega arith)))
    ∙ add_same (λ i. size_of (at ns i)) (λ i. count (λ j. eqb ((view ns).rep j).idx i) is) 0 (length ns) (λ j a b. sized j (omega arith))
    ∙ add_swap (λ j i. eqb ((view ns).rep j).idx i) is is
    ∙ add_same (λ j. count (eqb ((view ns).rep j).idx) is) (λ j. 1) 0 (length ns)
    (λ j a b. count_one ((view ns).rep j).idx 0 (length ns) (omega arith) (omega (arith, rep_inside ok j (omega arith))))
    ∙ add_ones is ∙ length_from 0 (length ns)

-- a linked view: w's tree is the two trees, and l has none
module _ (n : ℕ) (g : View) (w l : ℕ) (c : Bool) (k : VState) (apart : w ≢ l) where
  abbrev leads_to : ℕ → ℕ → Bool
  leads_to i j = eqb (g.rep j).idx i

  abbrev links_to : ℕ → ℕ → Bool
  links_to i j = eqb ((link g w l c k).rep j).idx i

  links_hit : (i j : ℕ) → (g.rep j).idx ≡ l → links_to i j ≡ eqb w i
  links_hit i j e = ap (λ (t : Ty). eqb t.idx i) (rep_hit g w l c k j e)

  links_miss : (i j : ℕ) → (g.rep j).idx ≢ l → links_to i j ≡ leads_to i j
  links_miss i j e = ap (λ (t : Ty). eqb t.idx i) (rep_miss g w l c k j e)

  links_w : (j : ℕ) → unit (links_to w j) ≡ unit (leads_to w j) + unit (leads_to l j)
  links_w j = go (same? (g.rep j).idx l)
    where
      go : ((g.rep j).idx ≡ l) ⊎ ((g.rep j).idx ≢ l) → unit (links_to w j) ≡ unit (leads_to w j) + unit (leads_to l j)
      go (inl e) =
          omega (arith, ap unit (links_hit w j e ∙ eq-eqb w w refl), ap unit (ne_eqb (g.rep j).idx w (λ q. apart (sym q ∙ e))), ap unit (eq-eqb (g.rep j).idx l e))
      go (inr e) = omega (arith, ap unit (links_miss w j e), ap unit (ne_eqb (g.rep j).idx l e))

  links_l : (j : ℕ) → links_to l j ≡ false
  links_l j = go (same? (g.rep j).idx l)
    where
      go : ((g.rep j).idx ≡ l) ⊎ ((g.rep j).idx ≢ l) → links_to l j ≡ false
      go (inl e) = links_hit l j e ∙ ne_eqb w l apart
      go (inr e) = links_miss l j e ∙ ne_eqb (g.rep j).idx l e

  links_other : (i j : ℕ) → i ≢ w → i ≢ l → links_to i j ≡ leads_to i j
  links_other i j a b = go (same? (g.rep j).idx l)
    where
      go : ((g.rep j).idx ≡ l) ⊎ ((g.rep j).idx ≢ l) → links_to i j ≡ leads_to i j
      go (inl e) = links_hit i j e ∙ ne_eqb w i (λ q. a (sym q)) ∙ sym (ne_eqb (g.rep j).idx i (λ q. b (sym q ∙ e)))
      go (inr e) = links_miss i j e

  pub link_sized : w < n → l < n → Sized n g → Sized n (link g w l c k)
  unfolding link
  link_sized hw hl ok i h = go (same? i w) (same? i l)
    where
      go : (i ≡ w) ⊎ (i ≢ w) → (i ≡ l) ⊎ (i ≢ l) → (link g w l c k).sz i ≡ count (links_to i) (from 0 n)
      go (inl e) d = sel_yes (ℕ_discrete i w) _ _ e
          ∙ omega (arith, ok w hw, ok l hl, count_sum (leads_to w) (leads_to l) (links_to w) links_w (from 0 n))
          ∙ ap (λ (x : ℕ). count (links_to x) (from 0 n)) (sym e)
      go (inr e) (inl q) = sel_no (ℕ_discrete i w) _ _ e ∙ sel_yes (ℕ_discrete i l) _ _ q
          ∙ sym (count_none (links_to l) 0 n (λ j a b. links_l j)) ∙ ap (λ (x : ℕ). count (links_to x) (from 0 n)) (sym q)
      go (inr e) (inr q) = sel_no (ℕ_discrete i w) _ _ e ∙ sel_no (ℕ_discrete i l) _ _ q ∙ ok i h
          ∙ sym (count_same (links_to i) (leads_to i) 0 n (λ j a b. links_other i j e q))

-- a path is a number of parent steps that lead to a root
pub leads_rooted : {ns : List Node} {n d : ℕ} {r : Ty} (f : ℕ) → Leads ns n d r → d ≤ f → rooted f ns n ≡ true
unfolding rooted
leads_rooted zero (top st z e) h = ap is_root e
leads_rooted {ns} (suc f) (top st z e) h = ap (rooted_node (rooted f ns)) e
leads_rooted zero (up t e p) h = absurd (not-suc-le-zero h)
leads_rooted {ns} (suc f) (up t e p) h = ap (rooted_node (rooted f ns)) e ∙ leads_rooted f p (omega arith)

pub rooted_leads : (f : ℕ) (ns : List Node) (n : ℕ) → rooted f ns n ≡ true → Lead ns n
unfolding rooted
rooted_leads zero ns n e = go (at ns n) refl e
  where
    go : (x : Node) → at ns n ≡ x → is_root x ≡ true → Lead ns n
    go (Root st z) q h = record { deep = 0; to = ty false n; path = top st z q }
    go (Child t) q h = let z : ◌≡◌ {A = ℕ} 0 1 = cc in absurd (omega arith)
rooted_leads (suc f) ns n e = go (at ns n) refl (λ m. rooted_leads f ns m) e
  where
    go : (x : Node) → at ns n ≡ x → ((m : ℕ) → rooted f ns m ≡ true → Lead ns m) → rooted_node (rooted f ns) x ≡ true → Lead ns n
    go (Root st z) q ih h = record { deep = 0; to = ty false n; path = top st z q }
    go (Child t) q ih h = let l = ih t.idx h in record { deep = suc l.deep; to = flip t.inv l.to; path = up t q l.path }

-- no node is over twelve parent steps from its root
pub shallow_twelve : (ns : List Node) → Forest ns → Shallow ns → Sized (length ns) (view ns) → length ns ≤ MAX_NODES → (i : ℕ) → i < length ns → rooted 12 ns i ≡ true
unfolding view
shallow_twelve ns ok low sized room i h = leads_rooted 12 l.0.path (few (dec_lt 12 l.0.deep))
  where
    l : (l : Lead ns i) × (2 ^ l.deep ≤ size_of (at ns l.to.idx))
    l = low i h

    few : Dec (12 < l.0.deep) → l.0.deep ≤ 12
    few (no q) = omega arith
    few (yes q) =
        let m : 2 ^ 13 ≤ 2 ^ l.0.deep = pow_mono q in
        absurd (omega (arith, m, l.1, size_le (length ns) (view ns) sized l.0.to.idx (leads_inside ok.par l.0.path h)))
