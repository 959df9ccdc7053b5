-- The laws of a cache of roots: a number says the root that it was made of, a kept root is what `find` gives for each type of its node, and each
-- node of a path with its root kept leaves the cache so. The record Keeps is the invariant of the loop that keeps a path.
-- Assumes nothing.
use mathlib.Core.Path.{◌≡◌, refl, ap, sym, ◌∙◌}
use mathlib.Core.Bool.{Bool, true, false}
use mathlib.Core.List.{List}
use Prim.Native.Nat.{ℕ, ◌+◌, ◌-◌, ◌<◌, ◌≤◌}
use native.Mathlib.Omega.{arith}
use native.Mathlib.Decide.{ℕ_discrete, dec_lt}
use lib.ListN.{length, get_or, set, replicate, get_or-replicate, length-replicate, get_or-eq_default}
use lib.Seq.{get_or-set_same, get_or-set_other, set_out}
use borrow.Author.Tests.{le-leb, lt-leb, lt-ltb, le-ltb}
use Rattle.scope.specs.Base.{pick}
use Rattle.scope.specs.Types.{Ty, ty, flip, ty_of}
use Rattle.scope.specs.Nodes.{Node, find}
use Rattle.scope.proofs.Paths.{find_root}
use Rattle.types.specs.declared.«Type».{«Type»}
use Rattle.types.proofs.Laws.{ty_plain}
use Rattle.layout.specs.Words.{decode}
use Rattle.layout.specs.Meaning.{read_at}
use Rattle.layout.specs.declared.TypeNode.{TypeNode}
use Rattle.layout.specs.declared.TypeNode.TheVariants as code
use Rattle.layout.specs.declared.TypeState.{TypeState}
use Rattle.std.specs.declared.option.Option.TheVariants as near
use Rattle.roots.specs.Found.{Found}
use Rattle.roots.proofs.Laws.{is_root_lem}
use Rattle.roots.specs.Kept.{KEPT_INV, KEPT_END, kept_type, kept_word, Kept, Rooted, Cached}

-- numbers

kept_is : {k : ℕ} (r : «Type») → (k ≡ 0 → ⊥) → ty_of r.0 ≡ kept_type k → Kept k (near.Some r)
kept_is r h e = record {
  there = λ q s. h;
  type = λ q s. let z : r ≡ q = cc in ap (λ (x : «Type»). ty_of x.0) (sym z) ∙ e;
}

module _ {k w : ℕ} (r : «Type») (o : k ≡ w + 1) where
  pub kept_low : w < KEPT_INV → r.0 ≡ w → Kept k (near.Some r)
  kept_low l e =
      let d : w + 1 - 1 ≡ w = omega arith in
      kept_is r (λ z. omega arith) (rw (e, o, le-ltb KEPT_INV (w + 1) (omega arith), d) (ty_plain w (omega arith)))

  pub kept_high : KEPT_INV ≤ w → w < KEPT_END → ty_of r.0 ≡ flip true (ty_of (w - KEPT_INV)) → Kept k (near.Some r)
  kept_high l h e =
      let d : w + 1 - 1 ≡ w = omega arith in
      kept_is r (λ z. omega arith) (e ∙ rw (o, lt-ltb KEPT_INV (w + 1) (omega arith), d, ty_plain (w - KEPT_INV) (omega arith)))

-- a root is read back from its number

word_large : (r : Ty) → KEPT_INV ≤ r.idx + 1 → kept_word r ≡ 0
word_large r h = rw (le-leb KEPT_INV (r.idx + 1) h)

word_small : (b : Bool) (i : ℕ) → i + 1 < KEPT_INV → kept_word (ty b i) ≡ pick b (i + 1 + KEPT_INV) (i + 1)
word_small b i h = rw (lt-leb KEPT_INV (i + 1) h)

kept_small : (b : Bool) (i : ℕ) → i + 1 < KEPT_INV → kept_type (pick b (i + 1 + KEPT_INV) (i + 1)) ≡ ty b i
kept_small true i h =
    let e : i + 1 + KEPT_INV - 1 - KEPT_INV ≡ i = omega arith in
    rw (lt-ltb KEPT_INV (i + 1 + KEPT_INV) (omega arith), e)
kept_small false i h =
    let e : i + 1 - 1 ≡ i = omega arith in
    rw (le-ltb KEPT_INV (i + 1) (omega arith), e)

kept_back : (r : Ty) → (kept_word r ≡ 0 → ⊥) → kept_type (kept_word r) ≡ r
kept_back r h = go (dec_lt (r.idx + 1) KEPT_INV)
  where
    go : Dec (r.idx + 1 < KEPT_INV) → kept_type (kept_word r) ≡ r
    go (yes l) = rw (word_small r.inv r.idx l) (kept_small r.inv r.idx l)
    go (no l) = absurd (h (word_large r (omega arith)))

-- a type's root is its node's, with the type's inversion
find_flip : (ns : List Node) (t : Ty) → find ns t ≡ flip t.inv (find ns (ty false t.idx))
find_flip ns t = find_root ns t ∙ ap (flip t.inv) (sym (find_root ns (ty false t.idx)))

-- the root of its node, inverted as the type is
pub found_flip : {ws : List ℕ} {n : ℕ} (t : «Type») {i : ℕ} {b : Bool} {r : Ty} {q : ℕ} → i ≡ (ty_of t.0).idx → b ≡ (ty_of t.0).inv → Rooted ws n i r
    → ty_of q ≡ flip b r → Found ws n t.0 q
found_flip {ws} {n} t ei eb c e = record {
  root = λ ks. e ∙ rw (eb, ← c.found ks, ei) (sym (find_flip (decode ws ks n) (ty_of t.0)));
}

-- one more root kept
module _ {ws : List ℕ} {n : ℕ} {cache : List ℕ} (c : Cached ws n cache) {i : ℕ} {r : Ty} (f : Rooted ws n i r) where
  cached_at : (k : ℕ) → k ≡ kept_word r → (k ≡ 0 → ⊥) → Rooted ws n i (kept_type k)
  cached_at k w z = rw (w, kept_back r (rw (← w) z)) f

  pub cached_keep : {cache' : List ℕ} → cache' ≡ set cache i (kept_word r) → Cached ws n cache'
  cached_keep {cache'} e = record { each = λ j z. go j z (ℕ_discrete j i) (dec_lt i (length cache)) }
    where
      go : (j : ℕ) → (get_or cache' j 0 ≡ 0 → ⊥) → Dec (j ≡ i) → Dec (i < length cache) → Rooted ws n j (kept_type (get_or cache' j 0))
      go j z (yes p) (yes l) = rw p (cached_at (get_or cache' i 0) (rw e (get_or-set_same cache i (kept_word r) 0 l)) (rw (← p) z))
      go j z (yes p) (no l) =
          let s : cache' ≡ cache = e ∙ set_out cache i (kept_word r) (omega arith) in
          rw s (c.each j (rw (← s) z))
      go j z (no p) d =
          let s : get_or cache' j 0 ≡ get_or cache j 0 = rw e (get_or-set_other cache i j (kept_word r) 0 p) in
          rw s (c.each j (rw (← s) z))

-- a cache of nothing

zeros_at : (m i : ℕ) → get_or {A = ℕ} (replicate m 0) i 0 ≡ 0
zeros_at m i = go (dec_lt i m)
  where
    go : Dec (i < m) → get_or {A = ℕ} (replicate m 0) i 0 ≡ 0
    go (yes h) = get_or-replicate m i 0 0 h
    go (no h) = get_or-eq_default (replicate m 0) 0 (rw length-replicate (omega arith))

pub cached_zeros : (ws : List ℕ) (n m : ℕ) → Cached ws n (replicate m 0)
cached_zeros ws n m = record { each = λ i z. absurd (z (zeros_at m i)) }

-- a root is its own
pub found_root : {ws : List ℕ} {n : ℕ} (t : «Type») {i : ℕ} {v : TypeNode} {st : TypeState} {z : ℕ} → i ≡ (ty_of t.0).idx → v ≡ read_at ws n i → v ≡ code.Root st z
    → Found ws n t.0 t.0
found_root t ei ev e = (is_root_lem {t = t} ei ev e).found t refl
