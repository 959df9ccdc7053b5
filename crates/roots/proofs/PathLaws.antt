-- The laws of paths to roots, whatever the parents are: `find` reaches the root at a path's end; one more child in front of a path, or one less. A loop that
-- climbs from a node keeps that any path of the node where it is gives one of the first.
-- Assumes nothing.
use mathlib.Core.Path.{◌≡◌, refl, ap, sym, subst, ◌∙◌}
use mathlib.Core.Bool.{Bool, true, false}
use mathlib.Core.List.{List}
use Prim.Native.Nat.{ℕ, zero, suc, ◌<◌}
use lib.ListN.{length}
use Rattle.scope.specs.Base.{xor}
use Rattle.scope.specs.Types.{Ty, ty, flip, INV_BIT, ty_of}
use Rattle.scope.specs.Nodes.{Node, Root, Child, at, is_root, climb, find}
use Rattle.scope.proofs.TestLaws.{tf}
use Rattle.scope.proofs.Laws as scope
use Rattle.scope.proofs.ViewLaws.{flip_flip}
use Rattle.scope.proofs.Paths.{Leads, top, up, flip_false, climb_flip, leads_root, leads_up, find_leads}
use Rattle.types.specs.declared.«Type».{«Type»}
use Rattle.types.proofs.Laws.{idx_below, ty_new}
use Rattle.layout.specs.Words.{decode}
use Rattle.layout.specs.Meaning.{read_at, Linked}
use Rattle.layout.specs.declared.TypeNode.{TypeNode}
use Rattle.layout.specs.declared.TypeNode.TheVariants as code
use Rattle.layout.specs.declared.TypeState.{TypeState}
use Rattle.layout.proofs.LinkLaws.{read_child, read_root}
use Rattle.std.specs.declared.option.Option.TheVariants as near
use Rattle.roots.specs.Kept.{Rooted, Topped}

-- climbing from a child is climbing from its parent
up_climb : (f : ℕ) (ns : List Node) (i : ℕ) (u : Ty) → at ns i ≡ Child u → climb (suc f) ns (ty false i) ≡ flip u.inv (climb f ns (ty false u.idx))
up_climb f ns i u e =
    scope.climb_child f ns (ty false i) u e ∙ (ap (climb f ns) (sym (flip_false u.inv u.idx)) ∙ climb_flip f ns u.inv (ty false u.idx))

top_path : {ns : List Node} {i d : ℕ} {r : Ty} → Leads ns i d r → is_root (at ns r.idx) ≡ true
top_path p = let z = leads_root p in ap is_root z.2

-- a climb that ends at a root is a path
abbrev Path : List Node → ℕ → Ty → Type 0
Path ns i r = (d : ℕ) × Leads ns i d r

root_path : (ns : List Node) (i : ℕ) → is_root (at ns i) ≡ true → Path ns i (ty false i)
root_path ns i h = go (at ns i) refl h
  where
    go : (v : Node) → at ns i ≡ v → is_root v ≡ true → Path ns i (ty false i)
    go (Root st z) e h = (0, top st z e)
    go (Child u) e h = tf (sym h)

up_path : {ns : List Node} {i : ℕ} {r : Ty} (u : Ty) → at ns i ≡ Child u → Path ns u.idx r → Path ns i (flip u.inv r)
up_path u e p = (suc p.0, up u e p.1)

path_climb : (f : ℕ) (ns : List Node) (i : ℕ) → is_root (at ns (climb f ns (ty false i)).idx) ≡ true → Path ns i (climb f ns (ty false i))
unfolding climb
path_climb zero ns i h = root_path ns i h
path_climb (suc f) ns i h = go (at ns i) refl (λ j k. path_climb f ns j k)
  where
    go : (v : Node) → at ns i ≡ v → ((j : ℕ) → is_root (at ns (climb f ns (ty false j)).idx) ≡ true → Path ns j (climb f ns (ty false j)))
        → Path ns i (climb (suc f) ns (ty false i))
    go (Root st z) e ih = subst (Path ns i) (sym (scope.climb_root (suc f) ns (ty false i) e)) (0, top st z e)
    go (Child u) e ih =
        let q = up_climb f ns i u e in
        subst (Path ns i) (sym q) (up_path u e (ih u.idx (ap (λ (x : Ty). is_root (at ns x.idx)) (sym q) ∙ h)))

path_find : {ns : List Node} {i : ℕ} {r : Ty} → find ns (ty false i) ≡ r → is_root (at ns r.idx) ≡ true → Path ns i r
unfolding find
path_find {ns} {i} e h = subst (Path ns i) e (path_climb (length ns) ns i (ap (λ (x : Ty). is_root (at ns x.idx)) e ∙ h))

-- in words

rooted : {ws : List ℕ} {n i : ℕ} {r : Ty} → ((ks : List ℕ) → Path (decode ws ks n) i r) → Rooted ws n i r
rooted {i = i} p = record { found = λ ks. find_leads (ty false i) (p ks).1; top = λ ks. top_path (p ks).1 }

path : {ws : List ℕ} {n i : ℕ} {r : Ty} → Rooted ws n i r → (ks : List ℕ) → Path (decode ws ks n) i r
path c ks = path_find (c.found ks) (c.top ks)

-- a child's root is its parent's
pub rooted_up : {ws : List ℕ} {n i j : ℕ} {b : Bool} {v : TypeNode} {u : «Type»} {r q : Ty} → Linked ws n → Rooted ws n i r → v ≡ read_at ws n i → v ≡ code.Child u
    → b ≡ (ty_of u.0).inv → q ≡ flip b r → j ≡ (ty_of u.0).idx → Rooted ws n j q
rooted_up {ws} {n} {i} {u = u} l c o e x y z =
    rw (z, y, x) (rooted (λ ks. leads_up (ty_of u.0) (read_child ws n i l u (sym o ∙ e) ks) (path c ks).1))

-- a root's child
pub rooted_child : {ws : List ℕ} {n i j : ℕ} {v w : TypeNode} {u : «Type»} {st : TypeState} {z : ℕ} → Linked ws n → v ≡ read_at ws n i → v ≡ code.Child u
    → j ≡ (ty_of u.0).idx → w ≡ read_at ws n j → w ≡ code.Root st z → Rooted ws n i (ty_of u.0)
rooted_child {ws} {n} {i} {j} {u = u} {st = st} {z = z} l o e x p q =
    let t = ty_of u.0 in
    let own : (ks : List ℕ) → Path (decode ws ks n) t.idx (ty false t.idx) =
    λ ks. root_path (decode ws ks n) t.idx (rw (← x) (read_root ws n j st z (sym p ∙ q) ks)) in
    rw (← flip_false t.inv t.idx) (rooted (λ ks. up_path t (read_child ws n i l u (sym o ∙ e) ks) (own ks)))

-- a climb from node i₀ is at node i, with the inversion b
pub record Rises (ws : List ℕ) (n i₀ : ℕ) (b : Bool) (i : ℕ) : Type 0 where
  pub small : i < INV_BIT
  pub rest : (ks : List ℕ) (r : Ty) → Path (decode ws ks n) i r → Path (decode ws ks n) i₀ (flip b r)

module _ {ws : List ℕ} {n i₀ : ℕ} {b : Bool} {i : ℕ} (c : Rises ws n i₀ b i) where
  pub rises_up : {v : TypeNode} {u : «Type»} {p q : Bool} {j : ℕ} → Linked ws n → v ≡ read_at ws n i → v ≡ code.Child u
      → p ≡ (ty_of u.0).inv → q ≡ xor b p → j ≡ (ty_of u.0).idx → Rises ws n i₀ q j
  rises_up {u = u} l o e x y z = record {
    small = rw z (idx_below u.0);
    rest = λ ks r k.
        let w = ty_of u.0 in
        rw (y, x)
        (subst (Path (decode ws ks n) i₀) (sym (flip_flip b w.inv r))
        (c.rest ks (flip w.inv r) (up_path w (read_child ws n i l u (sym o ∙ e) ks) (rw z at k))));
  }

  pub rises_kept : {r : Ty} (q : «Type») → Rooted ws n i r → ty_of q.0 ≡ flip b r → Topped ws n i₀ (near.Some q)
  rises_kept {r} q k e = record {
    told = λ s z. let y : q ≡ s = cc in subst (λ (x : «Type»). Rooted ws n i₀ (ty_of x.0)) y (rw e (rooted (λ ks. c.rest ks r (path k ks))));
  }

  pub rises_root : {v : TypeNode} {st : TypeState} {z : ℕ} (q : «Type») → v ≡ read_at ws n i → v ≡ code.Root st z → ty_of q.0 ≡ flip b (ty_of i)
      → Topped ws n i₀ (near.Some q)
  rises_root {st = st} {z = z} q o e x =
      let own : Rooted ws n i (ty false i) = rooted (λ ks. root_path (decode ws ks n) i (read_root ws n i st z (sym o ∙ e) ks)) in
      rises_kept q own (x ∙ (ty_new b i c.small ∙ sym (flip_false b i)))
