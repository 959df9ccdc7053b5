-- How many nodes an import makes: one for each root that `copies` counts; and how many children: those of the new kinds. Assumes nothing.
use mathlib.Core.Path.{◌≡◌, refl, sym, ap, subst, ◌∙◌}
use mathlib.Core.List.Memᴰ
use mathlib.Core.List.{List, [], ◌∷◌, Memᴰ}
use mathlib.Core.Bool.{Bool, true, false, ◌||◌, true≢false, false≢true}
use mathlib.Core.Option.{Option, none, some}
use mathlib.Core.Logic.{◌⊎◌, inl, inr}
use Prim.Native.Nat.{ℕ, zero, suc, ◌+◌, ◌≤◌, ◌<◌}
use native.Mathlib.Nat.{suc-add, add-suc, add-zero}
use native.Mathlib.Decide.{ℕ_discrete}
use native.Mathlib.Omega.{arith}
use lib.Dec.{eqb}
use lib.ListN.{length}
use borrow.Author.Tests.{eqb-true, eq-eqb, ne_eqb}
use Rattle.scope.specs.Base.{pick, count, from, is_some}
use Rattle.scope.specs.Types.{Ty}
use Rattle.scope.specs.Nodes.{Node, Store, at, state_of, state_at, find, kids_of}
use Rattle.scope.specs.Sound.{falls}
use Rattle.scope.specs.Import.{Work, copy_of, Replaced, keep, missing_entry, entry, replaced, start, import, reaches_state, reaches, copies}
use Rattle.scope.proofs.TestLaws.{of-all, any_yes, yes_any, same_bool}
use Rattle.scope.proofs.Extend.{Extends, extends_tail}
use Rattle.scope.proofs.Mapping.{Source, held, Tally, tnil, tcons, Maps, copy_maps, copy_none}
use Rattle.scope.proofs.Copy.{Reach, here, below, Became, as_copy, as_entry, lost, Ok, PostAll, import_ok}
use Rattle.scope.proofs.Copies.{not_keep, became_of, became_length, copy_kids, copy_filled}

-- the test agrees with the relation
module _ (ns : List Node) (ps : Option (List Ty)) (n : ℕ) where
  reaches_reach : (f : ℕ) (ts : List Ty) → reaches f ns ps n ts ≡ true → (t : Ty) × Memᴰ t ts × Reach ns ps n t
  unfolding reaches
  reaches_reach zero ts e = absurd (false≢true e)
  reaches_reach (suc f) ts e =
      let z = any_yes test ts e in
      (z.0, z.1, go z.0 (replaced ps (state_at ns z.0)) refl z.2 (reaches_reach f (kids_of (state_at ns z.0))))
    where
      test : Ty → Bool
      test t = reaches_state (reaches f ns ps n) ps (eqb (find ns t).idx n) (state_at ns t) (replaced ps (state_at ns t))

      go : (t : Ty) (u : Replaced) → replaced ps (state_at ns t) ≡ u
          → reaches_state (reaches f ns ps n) ps (eqb (find ns t).idx n) (state_at ns t) u ≡ true
          → (reaches f ns ps n (kids_of (state_at ns t)) ≡ true → (c : Ty) × Memᴰ c (kids_of (state_at ns t)) × Reach ns ps n c)
          → Reach ns ps n t
      go t missing_entry q h ih = absurd (false≢true h)
      go t (entry u) q h ih = absurd (false≢true h)
      go t keep q h ih = choose (eqb (find ns t).idx n) refl h
        where
          choose : (b : Bool) → eqb (find ns t).idx n ≡ b → (b || reaches f ns ps n (kids_of (state_at ns t))) ≡ true → Reach ns ps n t
          choose true e h = here q (eqb-true (find ns t).idx n e)
          choose false e h = let z = ih h in below z.0 q z.1 z.2

  reach_reaches : {t : Ty} → Reach ns ps n t → (f : ℕ) → falls f ns (find ns t).idx ≡ true → (ts : List Ty) → Memᴰ t ts → reaches f ns ps n ts ≡ true
  unfolding reaches falls
  reach_reaches r zero e ts m = absurd (false≢true e)
  reach_reaches {t} (here k q) (suc f) e ts m =
      yes_any (λ t. reaches_state (reaches f ns ps n) ps (eqb (find ns t).idx n) (state_at ns t) (replaced ps (state_at ns t))) ts t m
      (rw (k, eq-eqb (find ns t).idx n q))
  reach_reaches {t} (below c k x r) (suc f) e ts m =
      let h = reach_reaches r f (of-all (λ (c : Ty). falls f ns (find ns c).idx) (kids_of (state_at ns t)) e x) (kids_of (state_at ns t)) x in
      yes_any (λ t. reaches_state (reaches f ns ps n) ps (eqb (find ns t).idx n) (state_at ns t) (replaced ps (state_at ns t))) ts t m
      (rw k (or_right (eqb (find ns t).idx n) h))
    where
      or_right : (b : Bool) {a : Bool} → a ≡ true → (b || a) ≡ true
      or_right true h = refl
      or_right false h = h

  -- what is reached was copied
  reach_maps : (s : Store) (w : Work) → Ok ns ps s [] w → w.missing ≡ false → {t t' : Ty} → Reach ns ps n t → Became ns ps w t t'
      → (m : ℕ) × Maps w.mapping n m
  reach_maps s w ok miss (here k q) (as_copy m p e) = (m, subst (λ (r : ℕ). Maps w.mapping r m) q p)
  reach_maps s w ok miss (here k q) (as_entry u h e) = absurd (not_keep (sym h ∙ k))
  reach_maps s w ok miss (here k q) (lost h) = absurd (true≢false (sym h ∙ miss))
  reach_maps s w ok miss {t} (below c k x r) (as_copy m p e) = reach_maps s w ok miss r
      (became_of (copy_filled ns ps s w ok (find ns t).idx m p).became c x).1
  reach_maps s w ok miss (below c k x r) (as_entry u h e) = absurd (not_keep (sym h ∙ k))
  reach_maps s w ok miss (below c k x r) (lost h) = absurd (true≢false (sym h ∙ miss))

-- one for a passed test, none for another
abbrev unit : Bool → ℕ
unit b = pick b 1 0

count_same : (p q : ℕ → Bool) (i n : ℕ) → ((j : ℕ) → j < i + n → p j ≡ q j) → count p (from i n) ≡ count q (from i n)
count_same p q i zero h = refl
count_same p q i (suc n) h = omega (arith, ap unit (h i (omega arith)), count_same p q (suc i) n (λ j a. h j (omega arith)))

count_sum : (p q r : ℕ → Bool) → ((j : ℕ) → unit (r j) ≡ unit (p j) + unit (q j)) → (xs : List ℕ) → count r xs ≡ count p xs + count q xs
count_sum p q r h [] = refl
count_sum p q r h (x ∷ xs) = omega (arith, h x, count_sum p q r h xs)

count_none : (p : ℕ → Bool) (i n : ℕ) → ((j : ℕ) → i ≤ j → p j ≡ false) → count p (from i n) ≡ 0
count_none p i zero h = refl
count_none p i (suc n) h = omega (arith, ap unit (h i (omega arith)), count_none p (suc i) n (λ j a. h j (omega arith)))

-- a number stands once in a run
count_one : (r i n : ℕ) → i ≤ r → r < i + n → count (eqb r) (from i n) ≡ 1
count_one r i zero a b = absurd (omega arith)
count_one r i (suc n) a b = go (ℕ_discrete r i) (λ c. count_one r (suc i) n c (omega arith))
  where
    go : Dec (r ≡ i) → (suc i ≤ r → count (eqb r) (from (suc i) n) ≡ 1) → unit (eqb r i) + count (eqb r) (from (suc i) n) ≡ 1
    go (yes e) ih = omega (arith, ap unit (eq-eqb r i e), count_none (eqb r) (suc i) n (λ j c. ne_eqb r j (λ z. omega arith)))
    go (no e) ih = omega (arith, ap unit (ne_eqb r i e), ih (omega arith))

-- a mapping's roots, counted
count_maps : {b : ℕ} {l : List (ℕ × ℕ)} → Tally b l → (n : ℕ) → ((r m : ℕ) → Maps l r m → r < n) → count (λ r. is_some (copy_of l r)) (from 0 n) ≡ length l
unfolding copy_of
count_maps tnil n h = count_none (λ r. false) 0 n (λ j a. refl)
count_maps (tcons {p = p} {l = l} f q t) n h =
    omega (
      arith,
      count_sum (eqb p.0) (λ r. is_some (copy_of l r)) (λ r. is_some (copy_of (p ∷ l) r)) (λ r. split r (eqb p.0 r) refl) (from 0 n),
      count_one p.0 0 n (omega arith) (omega (arith, h p.0 p.1 (Memᴰ.head refl))),
      count_maps t n (λ r m x. h r m (Memᴰ.tail x)),
    )
  where
    split : (r : ℕ) (b : Bool) → eqb p.0 r ≡ b → unit (is_some (pick b (some p.1) (copy_of l r))) ≡ unit b + unit (is_some (copy_of l r))
    split r true e = omega (arith, ap (λ (o : Option ℕ). unit (is_some o)) (ap (copy_of l) (sym (eqb-true p.0 r e)) ∙ f))
    split r false e = omega arith

some_of : (l : List (ℕ × ℕ)) (r : ℕ) → is_some (copy_of l r) ≡ true → (m : ℕ) × Maps l r m
some_of l r e = go (copy_of l r) refl e
  where
    go : (o : Option ℕ) → copy_of l r ≡ o → is_some o ≡ true → (m : ℕ) × Maps l r m
    go none q e = absurd (false≢true e)
    go (some m) q e = (m, copy_maps l r m q)

of_some : (l : List (ℕ × ℕ)) (r m : ℕ) → Maps l r m → is_some (copy_of l r) ≡ true
of_some l r m x = go (copy_of l r) refl
  where
    go : (o : Option ℕ) → copy_of l r ≡ o → is_some o ≡ true
    go none q = absurd (copy_none l r m x q)
    go (some n) q = refl

-- the children of a list of nodes
unfoldable pub kids_in : List Node → ℕ
kids_in [] = 0
kids_in (n ∷ ns) = length (kids_of (state_of n)) + kids_in ns

-- a number for each of k nodes from b on, added up
abbrev total : (ℕ → ℕ) → ℕ → ℕ → ℕ
total g b zero = 0
total g b (suc k) = g (b + k) + total g b k

total_next : (g : ℕ → ℕ) (b k : ℕ) → total g (suc b) k ≡ total (λ n. g (suc n)) b k
total_next g b zero = refl
total_next g b (suc k) = omega (arith, ap g (suc-add b k), total_next g b k)

total_first : (g : ℕ → ℕ) (b k : ℕ) → total g b (suc k) ≡ g b + total g (suc b) k
total_first g b zero = omega (arith, ap g (add-zero b))
total_first g b (suc k) = omega (arith, ap g (suc-add b k ∙ sym (add-suc b k)), total_first g b k)

abbrev kids_at : List Node → ℕ → ℕ
kids_at ns n = length (kids_of (state_of (at ns n)))

kids_all : (ns : List Node) → kids_in ns ≡ total (kids_at ns) 0 (length ns)
unfolding kids_in
kids_all [] = refl
kids_all (n ∷ ns) = omega (arith, kids_all ns, total_first (kids_at (n ∷ ns)) 0 (length ns), total_next (kids_at (n ∷ ns)) 0 (length ns))

kids_new : (ns ns' : List Node) (k : ℕ) → Extends ns ns' → length ns' ≡ length ns + k → kids_in ns' ≡ kids_in ns + total (kids_at ns') (length ns) k
unfolding kids_in
kids_new [] ns' k x e = let q : length ns' ≡ k = omega arith in omega (arith, kids_all ns', ap (total (kids_at ns') 0) q)
kids_new (n ∷ ns) [] k x e = absurd (omega arith)
kids_new (n ∷ ns) (n' ∷ ns') k x e =
    omega (
      arith,
      kids_new ns ns' k (extends_tail x) (omega arith),
      total_next (kids_at (n' ∷ ns')) (length ns) k,
      ap (λ (z : Node). length (kids_of (state_of z))) (x.old 0 (omega arith)),
    )

tally_held : (ns ns' : List Node) {b : ℕ} {l : List (ℕ × ℕ)} → Tally b l → ((r n : ℕ) → Maps l r n → kids_at ns' n ≡ kids_at ns r)
    → held ns l ≡ total (kids_at ns') b (length l)
tally_held ns ns' tnil h = refl
tally_held ns ns' (tcons {p = p} {l = l} f q t) h =
    omega (arith, h p.0 p.1 (Memᴰ.head refl), ap (kids_at ns') q, tally_held ns ns' t (λ r n m. h r n (Memᴰ.tail m)))

module _ (ns : List Node) (ps : Option (List Ty)) (s : Store) (ts : List Ty) (src : Source ns) (given : (t : Ty) → Memᴰ t ts → t.idx < length ns) where
  -- a root is reached if it was copied
  maps_reaches : (w : Work) → PostAll ns ps s [] (start s) ts (record { work = w; types = (import ns ps s ts).types }) → w.missing ≡ false
      → (n : ℕ) → reaches (length ns) ns ps n ts ≡ is_some (copy_of w.mapping n)
  maps_reaches w p miss n = same_bool (reaches (length ns) ns ps n ts) (is_some (copy_of w.mapping n)) to back
    where
      to : reaches (length ns) ns ps n ts ≡ true → is_some (copy_of w.mapping n) ≡ true
      to e =
          let r = reaches_reach ns ps n (length ns) ts e in
          let b = became_of p.became r.0 r.1 in
          let m = reach_maps ns ps n s w p.ok miss r.2 b.1 in
          of_some w.mapping n m.0 m.1

      back : is_some (copy_of w.mapping n) ≡ true → reaches (length ns) ns ps n ts ≡ true
      back e = let m = some_of w.mapping n e in go (p.reach n m.0 m.1)
        where
          go : Maps [] n (some_of w.mapping n e).0 ⊎ ((t : Ty) × Memᴰ t ts × Reach ns ps n t) → reaches (length ns) ns ps n ts ≡ true
          go (inl x) = absurd (Memᴰ.not-nil x)
          go (inr z) = reach_reaches ns ps n z.2 (length ns) (src.falling (find ns z.0).idx (src.inside z.0 (given z.0 z.1))) ts z.1

  -- the nodes that an import makes
  pub import_nodes : (import ns ps s ts).work.missing ≡ false → length (import ns ps s ts).work.dest.nodes ≡ length s.nodes + copies ns ps ts
  unfolding copies
  import_nodes miss =
      let p = import_ok ns ps s src ts given in
      let l = (import ns ps s ts).work.mapping in
      omega (
        arith,
        p.ok.len,
        count_same (λ n. reaches (length ns) ns ps n ts) (λ n. is_some (copy_of l n)) 0 (length ns) (λ n q. maps_reaches (import ns ps s ts).work p miss n),
        count_maps p.ok.tally (length ns) p.ok.below,
      )

  -- the children that it makes
  pub import_children : (import ns ps s ts).work.dest.children + kids_in s.nodes ≡ s.children + kids_in (import ns ps s ts).work.dest.nodes
  import_children =
      let p = import_ok ns ps s src ts given in
      let w = (import ns ps s ts).work in
      omega (
        arith,
        p.ok.children,
        tally_held ns w.dest.nodes p.ok.tally (λ r n m. same w p.ok r n m),
        kids_new s.nodes w.dest.nodes (length w.mapping) p.ok.ext p.ok.len,
      )
    where
      same : (w : Work) → Ok ns ps s [] w → (r n : ℕ) → Maps w.mapping r n → kids_at w.dest.nodes n ≡ kids_at ns r
      same w ok r n m =
          let f = copy_filled ns ps s w ok r n m in
          ap (λ (z : Node). length (kids_of (state_of z))) f.node ∙ copy_kids (state_of (at ns r)) f.kids (became_length f.became)
