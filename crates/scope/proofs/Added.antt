-- New roots behind a store's nodes: every type leads where it led, and what fitted fits. A store stays closed if the types that the new nodes hold are
-- in it. Assumes nothing.
use mathlib.Core.Path.{◌≡◌, refl, sym, ap, ap₂, subst, ◌∙◌}
use mathlib.Core.List.{List, [], ◌∷◌, Memᴰ}
use mathlib.Core.Bool.{false}
use mathlib.Core.Logic.{◌↔◌}
use Prim.Native.Nat.{ℕ, ◌≤◌, ◌<◌}
use native.Mathlib.Omega.{arith}
use native.Mathlib.Decide.{dec_lt}
use lib.ListN.{length, get_or-eq_default}
use Rattle.scope.specs.Limits.{NONE}
use Rattle.scope.specs.Chart.{Env}
use Rattle.scope.specs.Types.{Ty, flip}
use Rattle.scope.specs.Nodes.{State, Known, Unknown, InferenceFailed, Node, Root, Child, at, state_of, find, kids_of}
use Rattle.scope.specs.Trees.{node, fcons, tree_head, Val, invert_if, val, vals, build, StateFits, NodeFits, Fits}
use Rattle.scope.specs.Trees as Trees
use Rattle.scope.proofs.View.{view}
use Rattle.scope.proofs.ViewLaws.{Held}
use Rattle.scope.proofs.Paths.{flip_false, Forest, find_root}
use Rattle.scope.proofs.Falls.{seen_known}
use Rattle.scope.proofs.Extend.{Extends, ext_forest, ext_rep, new_rep}

-- every node leads to a root, and the types that nodes hold are types of the store
pub record Closed (ns : List Node) : Type 0 where
  pub forest : Forest ns
  pub kids : (r : ℕ) (c : Ty) → Memᴰ c (kids_of (state_of (at ns r))) → c.idx < length ns

pub closed_held : {ns : List Node} → Closed ns → Held (length ns) (view ns)
unfolding view
closed_held {ns} ok a i k q t m = ok.kids a t (subst (λ (st : State). Memᴰ t (kids_of st)) (sym (seen_known (state_of (at ns a)) q)) m)

pub at_end : (ns : List Node) (n : ℕ) → length ns ≤ n → at ns n ≡ Root (Unknown NONE) 0
at_end ns n h = get_or-eq_default ns (Root (Unknown NONE) 0) h

-- trees fit afterwards exactly if they fitted before and fit each new node
pub fits_added : (e : Env) (v : Val) (ns ns' : List Node) → Extends ns ns'
    → Fits e v ns' ↔ (Fits e v ns × ((n : ℕ) → length ns ≤ n → NodeFits e v n (at ns' n)))
fits_added e v ns ns' x = (λ f. (λ n. to f n (dec_lt n (length ns)), λ n q. f n), λ f n. back f n (dec_lt n (length ns)))
  where
    to : Fits e v ns' → (n : ℕ) → Dec (n < length ns) → NodeFits e v n (at ns n)
    to f n (yes q) = subst (NodeFits e v n) (x.old n q) (f n)
    to f n (no q) = subst (NodeFits e v n) (sym (at_end ns n (omega arith))) tt

    back : (Fits e v ns × ((n : ℕ) → length ns ≤ n → NodeFits e v n (at ns' n))) → (n : ℕ) → Dec (n < length ns) → NodeFits e v n (at ns' n)
    back f n (yes q) = subst (NodeFits e v n) (sym (x.old n q)) (f.0 n)
    back f n (no q) = f.1 n (omega arith)

-- trees that differ only past the end fit alike
pub fits_inside : (e : Env) (v w : Val) (ns : List Node) → Closed ns → ((n : ℕ) → n < length ns → w n ≡ v n) → Fits e v ns → Fits e w ns
unfolding build
fits_inside e v w ns ok same f n = go (dec_lt n (length ns))
  where
    val_same : (t : Ty) → t.idx < length ns → val e w t ≡ val e v t
    val_same t q = ap (invert_if e t.inv) (same t.idx q)

    vals_same : (ts : List Ty) → ((t : Ty) → Memᴰ t ts → t.idx < length ns) → vals e w ts ≡ vals e v ts
    vals_same [] h = refl
    vals_same (t ∷ ts) h = ap₂ fcons (val_same t (h t (Memᴰ.head refl))) (vals_same ts (λ u m. h u (Memᴰ.tail m)))

    state : (st : State) → ((c : Ty) → Memᴰ c (kids_of st) → c.idx < length ns) → n < length ns → StateFits e v st (v n) → StateFits e w st (w n)
    state (Known i k) h q g = same n q ∙ g ∙ ap (λ (ts : Trees.Forest). invert_if e i (node (tree_head e.texts k.head) false ts)) (sym (vals_same k.kids h))
    state (Unknown p) h q g = tt
    state InferenceFailed h q g = tt

    inner : (x : Node) → at ns n ≡ x → n < length ns → NodeFits e v n x → NodeFits e w n x
    inner (Root st z) q lt g = state st (λ c m. ok.kids n c (subst (λ (y : Node). Memᴰ c (kids_of (state_of y))) (sym q) m)) lt g
    inner (Child t) q lt g = same n lt ∙ g ∙ sym (val_same t (ok.forest.par n t q))

    go : Dec (n < length ns) → NodeFits e w n (at ns n)
    go (yes q) = inner (at ns n) refl q (f n)
    go (no q) = subst (NodeFits e w n) (sym (at_end ns n (omega arith))) tt

module _ (ns ns' : List Node) (x : Extends ns ns') (ok : Closed ns) where
  -- every type leads where it led
  pub find_added : (t : Ty) → find ns' t ≡ find ns t
  find_added t = find_root ns' t ∙ ap (flip t.inv) (ext_rep ns ns' x ok.forest t.idx) ∙ sym (find_root ns t)

  pub find_new : (t : Ty) → length ns ≤ t.idx → find ns' t ≡ t
  find_new t h = find_root ns' t ∙ ap (flip t.inv) (new_rep ns ns' x ok.forest t.idx h) ∙ flip_false t.inv t.idx

  pub closed_added : ((n : ℕ) → length ns ≤ n → (c : Ty) → Memᴰ c (kids_of (state_of (at ns' n))) → c.idx < length ns') → Closed ns'
  closed_added held = record { forest = ext_forest ns ns' x ok.forest; kids = λ r c m. kids r c m (dec_lt r (length ns)) }
    where
      kids : (r : ℕ) (c : Ty) → Memᴰ c (kids_of (state_of (at ns' r))) → Dec (r < length ns) → c.idx < length ns'
      kids r c m (yes h) = omega (arith, x.len, ok.kids r c (subst (λ (n : Node). Memᴰ c (kids_of (state_of n))) (x.old r h) m))
      kids r c m (no h) = held r (omega arith) c m
