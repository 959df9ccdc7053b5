-- Trees that fit a view: a type's tree is its root's, and joined types have one tree. Assumes nothing.
use mathlib.Core.Path.{◌≡◌, refl, sym, ap, ap₂, subst, ◌∙◌}
use mathlib.Core.List.{List, [], ◌∷◌, Memᴰ}
use mathlib.Core.Bool.{Bool, true, false}
use Prim.Native.Nat.{ℕ}
use Rattle.scope.specs.Chart.{Env}
use Rattle.scope.specs.Types.{Ty}
use Rattle.scope.specs.Kinds.{self_dual}
use Rattle.scope.specs.Nodes.{Kind}
use Rattle.scope.specs.Trees.{Tree, node, fcons, tree_head, invert, inverts, Val, invert_if, val, vals, build}
use Rattle.scope.proofs.View.{VState, unknown, known, View, root_of}
use Rattle.scope.proofs.TreeLaws.{invert_dual, invert_if_xor}
use Rattle.scope.proofs.PlanLaws.{Makeable, dual_tree}
use Rattle.scope.proofs.Grow.{ri, Self, self, Joined, agree, selfly}
use Rattle.scope.proofs.ViewLaws.{Kinds}

-- the tree t is what the state says
abbrev pub Den : Env → Val → VState → Tree → Type 0
Den e v unknown t = Unit {0}
Den e v (known i k) t = t ≡ invert_if e i (build e v k)

pub record Fits (e : Env) (v : Val) (g : View) : Type 0 where
  pub tree : (n : ℕ) → v n ≡ val e v (g.rep n)
  pub state : (n : ℕ) → Den e v (g.st n) (v n)

pub invert_if_self : (e : Env) (i : Bool) (t : Tree) → invert e t ≡ t → invert_if e i t ≡ t
invert_if_self e false t q = refl
invert_if_self e true t q = q

-- a type's tree is its root's
pub val_root : {e : Env} {v : Val} {g : View} → Fits e v g → (p : Ty) → val e v p ≡ val e v (root_of g p)
val_root {e} {v} {g} f p = ap (invert_if e p.inv) (f.tree p.idx)
    ∙ sym (invert_if_xor e p.inv (g.rep p.idx).inv (v (g.rep p.idx).idx))

vals_self : (e : Env) (v : Val) (xs : List Ty) → ((x : Ty) → Memᴰ x xs → invert e (val e v x) ≡ val e v x)
    → inverts e (vals e v xs) ≡ vals e v xs
unfolding inverts
vals_self e v [] h = refl
vals_self e v (x ∷ xs) h = ap₂ fcons (h x (Memᴰ.head refl)) (vals_self e v xs (λ y m. h y (Memᴰ.tail m)))

build_self : (e : Env) (v : Val) (k : Kind) → Makeable e k → self_dual k.head ≡ true
    → ((x : Ty) → Memᴰ x k.kids → invert e (val e v x) ≡ val e v x) → invert e (build e v k) ≡ build e v k
unfolding build
build_self e v k ok d h =
    invert_dual e (tree_head e.texts k.head) false (vals e v k.kids) (dual_tree e k ok ∙ d)
    ∙ ap (node (tree_head e.texts k.head) false) (vals_self e v k.kids h)

pub self_val : {e : Env} {v : Val} {g : View} {a : ℕ} → Kinds (Makeable e) g → Fits e v g → Self g a → invert e (v a) ≡ v a
self_val {e} {v} {g} {a} kinds f (self i k s d h) =
    let b : invert e (build e v k) ≡ build e v k = build_self e v k (kinds a i k s) d (λ x m. child x (self_val kinds f (h x m))) in
    let q : v a ≡ build e v k = subst (λ (x : VState). Den e v x (v a)) s (f.state a) ∙ invert_if_self e i (build e v k) b in
    ap (invert e) q ∙ b ∙ sym q
  where
    child : (x : Ty) → invert e (v (ri g x)) ≡ v (ri g x) → invert e (val e v x) ≡ val e v x
    child x q =
        let r : val e v x ≡ v (ri g x) = val_root f x ∙ invert_if_self e (root_of g x).inv (v (ri g x)) q in
        ap (invert e) r ∙ q ∙ sym r

pub joined_val : {e : Env} {v : Val} {g : View} {p q : Ty} → Kinds (Makeable e) g → Fits e v g → Joined g p q → val e v p ≡ val e v q
joined_val {e} {v} {g} {p} {q} kinds f (agree r) = val_root f p ∙ ap (val e v) r ∙ sym (val_root f q)
joined_val {e} {v} {g} {p} {q} kinds f (selfly r s) =
    let h = self_val kinds f s in
    val_root f p ∙ invert_if_self e (root_of g p).inv (v (ri g p)) h ∙ ap v r
    ∙ sym (invert_if_self e (root_of g q).inv (v (ri g q)) (subst (λ (n : ℕ). invert e (v n) ≡ v n) r h)) ∙ sym (val_root f q)
