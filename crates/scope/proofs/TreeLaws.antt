-- Laws of trees: inversion is its own inverse, keeps a tree's head, and flips its mark exactly where the head is not self-dual. Assumes nothing.
use mathlib.Core.Path.{◌≡◌, refl, sym, ap, ap₂, ◌∙◌}
use mathlib.Core.List.{List, [], ◌∷◌}
use mathlib.Core.Bool.{Bool, true, false, not, not-not}
use Prim.Native.Nat.{suc}
use lib.ListN.{length}
use Rattle.scope.specs.Base.{xor}
use Rattle.scope.specs.Chart.{Env}
use Rattle.scope.specs.Types.{Ty, flip}
use Rattle.scope.specs.Nodes.{Kind}
use Rattle.scope.specs.Trees.{TreeHead, Tree, node, Forest, fnil, fcons, tree_head, tree_dual, invert, inverts, trees, Val, invert_if, val, vals, build}

pub invert_dual : (e : Env) (h : TreeHead) (m : Bool) (ts : Forest) → tree_dual e h ≡ true → invert e (node h m ts) ≡ node h m (inverts e ts)
unfolding invert
invert_dual e h m ts d = rw d

pub invert_mark : (e : Env) (h : TreeHead) (m : Bool) (ts : Forest) → tree_dual e h ≡ false → invert e (node h m ts) ≡ node h (not m) ts
unfolding invert
invert_mark e h m ts d = rw d

twice_at : (e : Env) (h : TreeHead) (m : Bool) (ts : Forest) → inverts e (inverts e ts) ≡ ts → (b : Bool) → tree_dual e h ≡ b
    → invert e (invert e (node h m ts)) ≡ node h m ts
twice_at e h m ts q true d = ap (invert e) (invert_dual e h m ts d) ∙ invert_dual e h m (inverts e ts) d ∙ ap (node h m) q
twice_at e h m ts q false d = ap (invert e) (invert_mark e h m ts d) ∙ invert_mark e h (not m) ts d ∙ ap (λ (b : Bool). node h b ts) (not-not m)

mutual
  unfolding inverts

  pub invert_twice : (e : Env) (t : Tree) → invert e (invert e t) ≡ t
  invert_twice e (node h m ts) = twice_at e h m ts (inverts_twice e ts) (tree_dual e h) refl

  pub inverts_twice : (e : Env) (ts : Forest) → inverts e (inverts e ts) ≡ ts
  inverts_twice e fnil = refl
  inverts_twice e (fcons t ts) = ap₂ fcons (invert_twice e t) (inverts_twice e ts)

pub invert_if_twice : (e : Env) (i : Bool) (t : Tree) → invert_if e i (invert_if e i t) ≡ t
invert_if_twice e false t = refl
invert_if_twice e true t = invert_twice e t

pub invert_if_xor : (e : Env) (i j : Bool) (t : Tree) → invert_if e (xor i j) t ≡ invert_if e i (invert_if e j t)
invert_if_xor e false j t = refl
invert_if_xor e true false t = refl
invert_if_xor e true true t = sym (invert_twice e t)

pub val_flip : (e : Env) (v : Val) (i : Bool) (t : Ty) → val e v (flip i t) ≡ invert_if e i (val e v t)
val_flip e v i t = invert_if_xor e i t.inv (v t.idx)

abbrev pub tree_head_of : Tree → TreeHead
tree_head_of (node h m ts) = h

pub head_invert : (e : Env) (t : Tree) → tree_head_of (invert e t) ≡ tree_head_of t
head_invert e (node h m ts) = go (tree_dual e h) refl
  where
    go : (b : Bool) → tree_dual e h ≡ b → tree_head_of (invert e (node h m ts)) ≡ h
    go true d = ap tree_head_of (invert_dual e h m ts d)
    go false d = ap tree_head_of (invert_mark e h m ts d)

pub head_invert_if : (e : Env) (i : Bool) (t : Tree) → tree_head_of (invert_if e i t) ≡ tree_head_of t
head_invert_if e false t = refl
head_invert_if e true t = head_invert e t

pub trees_inverts : (e : Env) (ts : Forest) → trees (inverts e ts) ≡ trees ts
unfolding inverts
trees_inverts e fnil = refl
trees_inverts e (fcons t ts) = ap suc (trees_inverts e ts)

pub trees_vals : (e : Env) (v : Val) (ts : List Ty) → trees (vals e v ts) ≡ length ts
trees_vals e v [] = refl
trees_vals e v (t ∷ ts) = ap suc (trees_vals e v ts)

abbrev pub inverts_if : Env → Bool → Forest → Forest
inverts_if e false ts = ts
inverts_if e true ts = inverts e ts

pub trees_inverts_if : (e : Env) (i : Bool) (ts : Forest) → trees (inverts_if e i ts) ≡ trees ts
trees_inverts_if e false ts = refl
trees_inverts_if e true ts = trees_inverts e ts

pub inverts_if_cons : (e : Env) (i : Bool) (t : Tree) (ts : Forest) → inverts_if e i (fcons t ts) ≡ fcons (invert_if e i t) (inverts_if e i ts)
unfolding inverts
inverts_if_cons e false t ts = refl
inverts_if_cons e true t ts = refl

pub fcons_head : {t t' : Tree} {ts ts' : Forest} → fcons t ts ≡ fcons t' ts' → t ≡ t'
fcons_head {t} {t'} {ts} {ts'} e = cc

pub fcons_tail : {t t' : Tree} {ts ts' : Forest} → fcons t ts ≡ fcons t' ts' → ts ≡ ts'
fcons_tail {t} {t'} {ts} {ts'} e = cc

pub node_mark : {h h' : TreeHead} {m m' : Bool} {ts ts' : Forest} → node h m ts ≡ node h' m' ts' → m ≡ m'
node_mark {h} {h'} {m} {m'} {ts} {ts'} e = cc

pub node_kids : {h h' : TreeHead} {m m' : Bool} {ts ts' : Forest} → node h m ts ≡ node h' m' ts' → ts ≡ ts'
node_kids {h} {h'} {m} {m'} {ts} {ts'} e = cc

-- two kinds' trees, one inverted if i, have equal heads
pub build_heads : (e : Env) (v : Val) (k m : Kind) (i : Bool) → build e v k ≡ invert_if e i (build e v m)
    → tree_head e.texts k.head ≡ tree_head e.texts m.head
unfolding build
build_heads e v k m i q = ap tree_head_of q ∙ head_invert_if e i (node (tree_head e.texts m.head) false (vals e v m.kids))
