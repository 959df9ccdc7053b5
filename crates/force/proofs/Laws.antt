-- A list that is changed node by node from the front: below i it is what it is to become, from i on what it was. What was to be done is done at its
-- end. And `find_mut` changes links alone, so each node keeps its state.
-- Assumes nothing.
use mathlib.Core.Path.{◌≡◌, refl, ap, sym, ◌∙◌}
use mathlib.Core.Bool.{Bool, true, false}
use mathlib.Core.List.{List, map}
use Prim.Native.Nat.{ℕ, zero, suc, ◌+◌, ◌<◌, ◌≤◌}
use native.Mathlib.Omega.{arith}
use lib.Dec.{eqb}
use lib.ListN.{length, get_or, set, length-set, get_or-map}
use lib.Seq.{get_or-set_same, get_or-set_other, map-set_same, ext_get_or}
use borrow.Author.Tests.{eqb-true, eqb-false}
use Rattle.scope.specs.Types.{Ty, flip}
use Rattle.scope.specs.Nodes.{Node, Root, Child, at, state_of, find, compress, find_mut}
use Rattle.scope.proofs.Laws.{compress_root, compress_child}
use Rattle.layout.proofs.Laws.{past}

-- node by node

pub record Going (from to : List Node) (i : ℕ) (ns : List Node) : Type 0 where
  pub long : length ns ≡ length from
  pub below : (j : ℕ) → j < i → at ns j ≡ at to j
  pub above : (j : ℕ) → i ≤ j → at ns j ≡ at from j

pub going_start : (from to : List Node) → Going from to 0 from
going_start from to = record { long = refl; below = λ j h. absurd (omega arith); above = λ j h. refl }

module _ {from to ns : List Node} {i : ℕ} (g : Going from to i ns) where
  pub going_skip : at to i ≡ at from i → Going from to (i + 1) ns
  going_skip e = record { long = g.long; below = λ j h. go (eqb j i) j refl h; above = λ j h. g.above j (omega arith) }
    where
      go : (b : Bool) (j : ℕ) → eqb j i ≡ b → j < i + 1 → at ns j ≡ at to j
      go true j q h = rw (eqb-true j i q) (g.above i (omega arith) ∙ sym e)
      go false j q h = let z : j ≡ i → ⊥ = eqb-false j i q in g.below j (omega arith)

  pub going_put : (v : Node) → i < length from → at to i ≡ v → Going from to (i + 1) (set ns i v)
  going_put v l e = record {
    long = length-set ns i v ∙ g.long;
    below = λ j h. go (eqb j i) j refl h;
    above = λ j h. get_or-set_other ns i j v past (λ z. omega arith) ∙ g.above j (omega arith);
  }
    where
      go : (b : Bool) (j : ℕ) → eqb j i ≡ b → j < i + 1 → at (set ns i v) j ≡ at to j
      go true j q h = rw (eqb-true j i q) (get_or-set_same ns i v past (omega (arith, g.long)) ∙ sym e)
      go false j q h =
          let z : j ≡ i → ⊥ = eqb-false j i q in
          get_or-set_other ns i j v past z ∙ g.below j (omega arith)

  pub going_end : length from ≤ i → length to ≡ length from → ns ≡ to
  going_end l e = ext_get_or past ns to (g.long ∙ sym e) (λ j h. g.below j (omega (arith, g.long)))

-- states

state_point : (v : Node) (f : ℕ) (ns : List Node) (r t : Ty) → ((ms : List Node) (u : Ty) → map state_of (compress f ms r u) ≡ map state_of ms)
    → at ns t.idx ≡ v → map state_of (compress (suc f) ns r t) ≡ map state_of ns
state_point (Root st z) f ns r t h e = ap (map state_of) (compress_root (suc f) ns r t e)
state_point (Child u) f ns r t h e =
    ap (map state_of) (compress_child f ns r t u e)
    ∙ (h (set ns t.idx (Child (flip t.inv r))) (flip t.inv u)
    ∙ map-set_same state_of ns t.idx (Child (flip t.inv r)) past (sym (ap state_of e)))

state_compress : (f : ℕ) (ns : List Node) (r t : Ty) → map state_of (compress f ns r t) ≡ map state_of ns
unfolding compress
state_compress zero ns r t = refl
state_compress (suc f) ns r t = state_point (at ns t.idx) f ns r t (λ ms u. state_compress f ms r u) refl

pub state_kept : (ns : List Node) (t : Ty) (i : ℕ) → state_of (at (find_mut ns t) i) ≡ state_of (at ns i)
unfolding find_mut
state_kept ns t i =
    sym (get_or-map state_of (find_mut ns t) i past)
    ∙ (ap (λ l. get_or l i (state_of past)) (state_compress (length ns) ns (find ns t) t) ∙ get_or-map state_of ns i past)
