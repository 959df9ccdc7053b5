-- The laws of climbing to a root and of pointing a path at it: one step at a child, none at a root, none without fuel. The two records are the loops'
-- invariants, for all words of children: what is left to do gives what the whole does.
-- Assumes nothing.
use mathlib.Core.Path.{◌≡◌, refl, ap, sym, ◌∙◌}
use mathlib.Core.Bool.{Bool, true}
use mathlib.Core.List.{List}
use Prim.Native.Nat.{ℕ, zero, suc, ◌+◌, ◌-◌, ◌*◌, ◌<◌, ◌≤◌}
use native.Mathlib.Omega.{arith}
use lib.ListN.{length, set}
use lib.Seq.{get_or-set_other}
use Rattle.scope.specs.Base.{xor}
use Rattle.scope.specs.Types.{Ty, ty, flip, INV_BIT, ty_of}
use Rattle.scope.specs.Nodes.{Node, Root, Child, at, is_root, climb, find, compress, find_mut}
use Rattle.scope.proofs.Laws as scope
use Rattle.scope.proofs.Paths.{child_inside, near_root, near_child}
use Rattle.types.specs.declared.«Type».{«Type»}
use Rattle.types.proofs.Laws.{idx_below, ty_new}
use Rattle.layout.specs.Words.{NODE_WORDS, node_field, decode}
use Rattle.layout.specs.Meaning.{CHILD_TAG, read_at, put_at, Linked}
use Rattle.layout.specs.declared.TypeNode.{TypeNode}
use Rattle.layout.specs.declared.TypeNode.TheVariants as code
use Rattle.layout.specs.declared.TypeState.{TypeState}
use Rattle.layout.proofs.Laws.{length_decode, length_put, tail_put, decode_put, clean_put}
use Rattle.layout.proofs.LinkLaws.{read_child, read_root, child_below, child_field, link_put, linked_put}
use Rattle.roots.specs.Found.{Nearby}
use Rattle.std.specs.declared.option.Option.TheVariants as near
use Rattle.roots.specs.Found.{Found, Relinked, FoundMut, Near}

-- find

pub climb_up : (f : ℕ) (ns : List Node) (t u : Ty) → 0 < f → at ns t.idx ≡ Child u → climb f ns t ≡ climb (f - 1) ns (flip t.inv u)
unfolding climb
climb_up zero ns t u h e = absurd (omega arith)
climb_up (suc f) ns t u h e = let k : suc f - 1 ≡ f = omega arith in rw k (scope.climb_child f ns t u e)

pub climb_root : (f : ℕ) (ns : List Node) (t : Ty) → is_root (at ns t.idx) ≡ true → climb f ns t ≡ t
climb_root f ns t e = go (at ns t.idx) refl e
  where
    go : (v : Node) → at ns t.idx ≡ v → is_root v ≡ true → climb f ns t ≡ t
    go (Root st z) q r = scope.climb_root f ns t q
    go (Child u) q r = cc

pub climb_out : (f : ℕ) (ns : List Node) (t : Ty) → f ≤ 0 → climb f ns t ≡ t
unfolding climb
climb_out zero ns t h = refl
climb_out (suc f) ns t h = absurd (omega arith)

-- f steps from node i with the inversion b lead where n steps from i₀ with b₀ do
pub record Climbs (ws : List ℕ) (n : ℕ) (b₀ : Bool) (i₀ : ℕ) (b : Bool) (i f : ℕ) : Type 0 where
  pub small : i < INV_BIT
  pub rest : (ks : List ℕ) → climb f (decode ws ks n) (ty b i) ≡ climb n (decode ws ks n) (ty b₀ i₀)

pub climbs_start : {ws : List ℕ} {n f : ℕ} {b : Bool} {i : ℕ} (t : ℕ) → i ≡ (ty_of t).idx → f ≡ n → Climbs ws n b i b i f
climbs_start t e h = record { small = rw e (idx_below t); rest = λ ks. rw h }

pub climbs_up : {ws : List ℕ} {n : ℕ} {b₀ : Bool} {i₀ : ℕ} {b : Bool} {i f g : ℕ} {v : TypeNode} {u : «Type»} {p q : Bool} {j : ℕ}
    → Linked ws n → Climbs ws n b₀ i₀ b i f → f ≡ g + 1 → v ≡ read_at ws n i → v ≡ code.Child u
    → p ≡ (ty_of u.0).inv → q ≡ xor b p → j ≡ (ty_of u.0).idx → Climbs ws n b₀ i₀ q j g
climbs_up {ws} {n} {b₀} {i₀} {b} {i} {f} {g} {v} {u} l c h r e x y z =
    let d : f - 1 ≡ g = omega arith in
    record {
      small = rw z (idx_below u.0);
      rest = λ ks.
          rw (y, x, z, ← d)
          (sym (climb_up f (decode ws ks n) (ty b i) (ty_of u.0) (omega arith) (read_child ws n i l u (sym r ∙ e) ks)) ∙ c.rest ks);
    }

module _ {ws : List ℕ} {n : ℕ} {b₀ : Bool} {i₀ : ℕ} {b : Bool} {i f : ℕ} (c : Climbs ws n b₀ i₀ b i f) (t r : ℕ)
    (e : ty_of r ≡ flip b (ty_of i)) (p : b₀ ≡ (ty_of t).inv) (q : i₀ ≡ (ty_of t).idx) where
  climbs_end : ((ks : List ℕ) → climb f (decode ws ks n) (ty b i) ≡ ty b i) → Found ws n t r
  unfolding find
  climbs_end k = record {
    root = λ ks. e ∙ (ty_new b i c.small ∙ (sym (k ks) ∙ (c.rest ks ∙ rw (length_decode ws ks n, p, q))));
  }

  pub climbs_root : {v : TypeNode} {st : TypeState} {z : ℕ} → v ≡ read_at ws n i → v ≡ code.Root st z → Found ws n t r
  climbs_root {v} {st} {z} x y = climbs_end (λ ks. climb_root f (decode ws ks n) (ty b i) (read_root ws n i st z (sym x ∙ y) ks))

  pub climbs_out : f ≤ 0 → Found ws n t r
  climbs_out h = climbs_end (λ ks. climb_out f (decode ws ks n) (ty b i) h)

-- find_mut

pub compress_up : (f : ℕ) (ns : List Node) (r t u : Ty) → 0 < f → at ns t.idx ≡ Child u
    → compress f ns r t ≡ compress (f - 1) (set ns t.idx (Child (flip t.inv r))) r (flip t.inv u)
unfolding compress
compress_up zero ns r t u h e = absurd (omega arith)
compress_up (suc f) ns r t u h e = let k : suc f - 1 ≡ f = omega arith in rw k (scope.compress_child f ns r t u e)

pub compress_root : (f : ℕ) (ns : List Node) (r t : Ty) → is_root (at ns t.idx) ≡ true → compress f ns r t ≡ ns
compress_root f ns r t e = go (at ns t.idx) refl e
  where
    go : (v : Node) → at ns t.idx ≡ v → is_root v ≡ true → compress f ns r t ≡ ns
    go (Root st z) q h = scope.compress_root f ns r t q
    go (Child u) q h = cc

pub compress_out : (f : ℕ) (ns : List Node) (r t : Ty) → f ≤ 0 → compress f ns r t ≡ ns
unfolding compress
compress_out zero ns r t h = refl
compress_out (suc f) ns r t h = absurd (omega arith)

pub relinked_refl : {ws : List ℕ} {n : ℕ} → Linked ws n → Relinked ws n ws
relinked_refl l = record { long = refl; tail = refl; others = λ p h. refl; linked = l; clean = λ ks c cl. cl }

-- what is near has no path to point
pub near_left : {ws : List ℕ} {n t : ℕ} {q : Nearby} (r : «Type») → Linked ws n → Near ws n t q → q ≡ near.Some r → FoundMut ws n ws t r.0
near_left r l k e = record { root = (k.found r e).root; nodes = λ ks. sym (k.stays r e ks); words = relinked_refl l }

-- a child of the words now was one before
tag_before : (ws ws' : List ℕ) (n i : ℕ) → Relinked ws n ws' → node_field ws' i 0 ≡ CHILD_TAG → node_field ws i 0 ≡ CHILD_TAG
tag_before ws ws' n i w e = sym (w.others (i * NODE_WORDS + 0) (λ j h g z. omega arith)) ∙ e

-- another parent for a child
module _ (ws ws' : List ℕ) (n i : ℕ) (u t : «Type») (w : Relinked ws n ws') (e : read_at ws' n i ≡ code.Child u) where
  relinked_put : Relinked ws n (put_at ws' n i (code.Child t))
  relinked_put =
      let room = w.linked.room in
      record {
        long = length_put ws' n room i (code.Child t) ∙ w.long;
        tail = tail_put ws' n room i (code.Child t) ∙ w.tail;
        others = λ p h.
            rw (link_put ws' n i w.linked u e t)
            (get_or-set_other ws' (i * NODE_WORDS + 1) p t.0 0 (h i (child_below ws' n i u e) (tag_before ws ws' n i w (child_field ws' n i u e))) ∙ w.others p h);
        linked = linked_put ws' n w.linked i (code.Child t);
        clean = λ ks c cl. clean_put ws' ks c n (w.clean ks c cl) i (code.Child t) refl;
      }

-- f steps of pointing at the root r from node i leave what n steps from i₀ do
pub record Points (ws : List ℕ) (n r : ℕ) (b₀ : Bool) (i₀ : ℕ) (ws' : List ℕ) (b : Bool) (i f : ℕ) : Type 0 where
  pub words : Relinked ws n ws'
  pub rest : (ks : List ℕ) → compress f (decode ws' ks n) (ty_of r) (ty b i) ≡ compress n (decode ws ks n) (ty_of r) (ty b₀ i₀)

pub points_up : {ws : List ℕ} {n r : ℕ} {b₀ : Bool} {i₀ : ℕ} {ws' : List ℕ} {b : Bool} {i f g : ℕ} {v : TypeNode} {u : «Type»} {ws'' : List ℕ}
    {p q : Bool} {j : ℕ} (t : «Type») → Points ws n r b₀ i₀ ws' b i f → f ≡ g + 1 → v ≡ read_at ws' n i → v ≡ code.Child u
    → ty_of t.0 ≡ flip b (ty_of r) → ws'' ≡ put_at ws' n i (code.Child t)
    → p ≡ (ty_of u.0).inv → q ≡ xor b p → j ≡ (ty_of u.0).idx → Points ws n r b₀ i₀ ws'' q j g
points_up {ws} {n} {r} {b₀} {i₀} {ws'} {b} {i} {f} {g} {v} {u} t c h o e a w x y z =
    let room = c.words.linked.room in
    let d : f - 1 ≡ g = omega arith in
    record {
      words = rw w (relinked_put ws ws' n i u t c.words (sym o ∙ e));
      rest = λ ks.
          rw (w, decode_put ws' n room i (code.Child t) ks 0 refl, a, y, x, z, ← d)
          (sym (compress_up f (decode ws' ks n) (ty_of r) (ty b i) (ty_of u.0) (omega arith) (read_child ws' n i c.words.linked u (sym o ∙ e) ks)) ∙ c.rest ks);
    }

module _ {ws : List ℕ} {n r : ℕ} {b₀ : Bool} {i₀ : ℕ} {ws' : List ℕ} {b : Bool} {i f : ℕ} (c : Points ws n r b₀ i₀ ws' b i f) (t : ℕ)
    (s : Found ws n t r) (p : b₀ ≡ (ty_of t).inv) (q : i₀ ≡ (ty_of t).idx) where
  points_end : ((ks : List ℕ) → compress f (decode ws' ks n) (ty_of r) (ty b i) ≡ decode ws' ks n) → FoundMut ws n ws' t r
  unfolding find_mut
  points_end k = record {
    root = s.root;
    nodes = λ ks. sym (k ks) ∙ (c.rest ks ∙ rw (length_decode ws ks n, ← s.root ks, p, q));
    words = c.words;
  }

  pub points_root : {v : TypeNode} {st : TypeState} {z : ℕ} → v ≡ read_at ws' n i → v ≡ code.Root st z → FoundMut ws n ws' t r
  points_root {v} {st} {z} x y =
      points_end (λ ks. compress_root f (decode ws' ks n) (ty_of r) (ty b i) (read_root ws' n i st z (sym x ∙ y) ks))

  pub points_out : f ≤ 0 → FoundMut ws n ws' t r
  points_out h = points_end (λ ks. compress_out f (decode ws' ks n) (ty_of r) (ty b i) h)

-- near

find_up : (ns : List Node) (t u : Ty) → at ns t.idx ≡ Child u → is_root (at ns u.idx) ≡ true → find ns t ≡ flip t.inv u
unfolding find
find_up ns t u e r =
    let h : 0 < length ns = omega (arith, child_inside ns t.idx e) in
    climb_up (length ns) ns t u h e ∙ climb_root (length ns - 1) ns (flip t.inv u) r

find_here : (ns : List Node) (t : Ty) → is_root (at ns t.idx) ≡ true → find ns t ≡ t
unfolding find
find_here ns t r = climb_root (length ns) ns t r

at_node : (ws : List ℕ) (n : ℕ) {i j : ℕ} {v w : TypeNode} → i ≡ j → v ≡ read_at ws n i → v ≡ w → read_at ws n j ≡ w
at_node ws n ei ev e = sym (ev ∙ ap (read_at ws n) ei) ∙ e

module _ {ws : List ℕ} {n : ℕ} {t : «Type»} {i : ℕ} (ei : i ≡ (ty_of t.0).idx) {v : TypeNode} (ev : v ≡ read_at ws n i) where
  pub is_root_lem : {st : TypeState} {z : ℕ} → v ≡ code.Root st z → Near ws n t.0 (near.Some t)
  is_root_lem {st} {z} e = record {
    found = λ r q. let s : t ≡ r = cc in record { root = λ ks. ap (λ (x : «Type»). ty_of x.0) (sym s) ∙ sym (find_here (decode ws ks n) (ty_of t.0) (top ks)) };
    stays = λ r q ks. near_root (decode ws ks n) (ty_of t.0) (top ks);
  }
    where
      top : (ks : List ℕ) → is_root (at (decode ws ks n) (ty_of t.0).idx) ≡ true
      top ks = read_root ws n (ty_of t.0).idx st z (at_node ws n ei ev e) ks

  pub under_root : {u p : «Type»} {j : ℕ} {b : Bool} {w : TypeNode} {st : TypeState} {z : ℕ} → Linked ws n → v ≡ code.Child u → j ≡ (ty_of u.0).idx → w ≡ read_at ws n j
      → w ≡ code.Root st z → b ≡ (ty_of t.0).inv → ty_of p.0 ≡ flip b (ty_of u.0) → Near ws n t.0 (near.Some p)
  under_root {u} {p} {b = b} {st = st} {z = z} l e ej ew er eb ep = record {
    found = λ r q.
        let s : p ≡ r = cc in
        record {
          root = λ ks.
              ap (λ (x : «Type»). ty_of x.0) (sym s) ∙ (ep ∙ (ap (λ (d : Bool). flip d (ty_of u.0)) eb ∙ sym (find_up (decode ws ks n) (ty_of t.0) (ty_of u.0) (up ks) (top ks))));
        };
    stays = λ r q ks. near_child (decode ws ks n) (ty_of t.0) (ty_of u.0) (up ks) (top ks);
  }
    where
      up : (ks : List ℕ) → at (decode ws ks n) (ty_of t.0).idx ≡ Child (ty_of u.0)
      up ks = read_child ws n (ty_of t.0).idx l u (at_node ws n ei ev e) ks

      top : (ks : List ℕ) → is_root (at (decode ws ks n) (ty_of u.0).idx) ≡ true
      top ks = read_root ws n (ty_of u.0).idx st z (at_node ws n ej ew er) ks

-- the root that the code finds
pub root_is : {ws : List ℕ} {n t r i : ℕ} → Found ws n t r → i ≡ (ty_of r).idx → (ks : List ℕ) → i ≡ (find (decode ws ks n) (ty_of t)).idx
root_is f e ks = e ∙ ap (λ (u : Ty). u.idx) (f.root ks)
