-- No child cycle, three ways: steps from a root to the roots of its kind's children end within the node count (`falls`), every root is accessible
-- (`Fin`), nothing contains itself. Assumes nothing.
use mathlib.Core.Path.{◌≡◌, refl, sym, ap, subst, ◌∙◌}
use mathlib.Core.List.{List, Memᴰ}
use mathlib.Core.Bool.{Bool, true}
use Prim.Native.Nat.{ℕ, zero, suc, ◌≤◌, ◌<◌}
use native.Mathlib.Omega.{arith}
use lib.ListN.{length}
use Rattle.scope.specs.Types.{Ty}
use Rattle.scope.specs.Nodes.{Kind, State, Known, Unknown, InferenceFailed, Node, Root, Child, at, state_of, find, kids_of}
use Rattle.scope.specs.Sound.{falls}
use Rattle.scope.specs.Demand.{Holds, Contains}
use Rattle.scope.specs.Demand as Demand
use Rattle.scope.proofs.View.{known, Kid, Below, one, more, Fin, fin, Good, seen, view}
use Rattle.scope.proofs.ViewLaws.{not_known, irrefl, Held}
use Rattle.scope.proofs.Chain.{Chain, cnil, chain_step, fuel_out, fuel_step}
use Rattle.scope.proofs.Free.{free, free_nil}
use Rattle.scope.proofs.Paths.{Forest, find_idx, kid_inside, root_rep}
use Rattle.scope.proofs.TestLaws.{all_of, of-all}

-- a kind that is seen is there
pub seen_known : (st : State) {i : Bool} {k : Kind} → seen st ≡ known i k → st ≡ Known i k
seen_known (Known i k) e = cc
seen_known (Unknown p) e = absurd (not_known e)
seen_known InferenceFailed e = absurd (not_known e)

pub falls_fin : (f : ℕ) (ns : List Node) (r : ℕ) → falls f ns r ≡ true → Fin (view ns) r
unfolding falls view
falls_fin zero ns r e = let z : ◌≡◌ {A = ℕ} 0 1 = cc in absurd (omega arith)
falls_fin (suc f) ns r e = fin (λ x c. falls_fin f ns x (step x c))
  where
    step : (x : ℕ) → Kid (view ns) r x → falls f ns x ≡ true
    step x c =
        let s : state_of (at ns r) ≡ Known c.inv c.kind = seen_known (state_of (at ns r)) c.state in
        ap (falls f ns) (sym c.to ∙ sym (find_idx ns c.kid))
        ∙ of-all (λ t. falls f ns (find ns t).idx) (kids_of (state_of (at ns r))) e (subst (λ (st : State). Memᴰ c.kid (kids_of st)) (sym s) c.mem)

-- a root's child
pub kid_of : {ns : List Node} → Forest ns → (a : ℕ) (t : Ty) → Memᴰ t (kids_of (state_of (at ns a))) → Kid (view ns) a (find ns t).idx
unfolding view
kid_of {ns} ok a t m = go (at ns a) refl m
  where
    go : (x : Node) → at ns a ≡ x → Memᴰ t (kids_of (state_of x)) → Kid (view ns) a (find ns t).idx
    go (Root (Known i k) z) e w = record { inv = i; kind = k; kid = t; top = root_rep ok e; state = ap (λ (y : Node). seen (state_of y)) e; mem = w; to = sym (find_idx ns t) }
    go (Root (Unknown p) z) e w = elim w [ ]
    go (Root InferenceFailed z) e w = elim w [ ]
    go (Child u) e w = elim w [ ]

module _ (ns : List Node) (ok : Forest ns) (good : Good (view ns)) where
  module _ (held : Held (length ns) (view ns)) where
    falls_chain : (f : ℕ) {y : ℕ} {ls : List ℕ} → Chain (view ns) y ls → y < length ns → free (length ns) ls ≤ f → falls f ns y ≡ true
    unfolding falls
    falls_chain zero c h q = absurd (fuel_out good c h q)
    falls_chain (suc f) {y} c h q = all_of (λ t. falls f ns (find ns t).idx) (kids_of (state_of (at ns y)))
        (λ t m. let k = kid_of ok y t m in falls_chain f (chain_step k c) (kid_inside ok held k) (fuel_step good c h q))

    pub good_falls : (r : ℕ) → r < length ns → falls (length ns) ns r ≡ true
    good_falls r h = falls_chain (length ns) cnil h (free_nil (length ns))

  holds_kid : {a x : ℕ} → Holds ns a x → Kid (view ns) a x
  holds_kid {a} h = subst (Kid (view ns) a) h.to (kid_of ok a h.kid h.mem)

  pub contains_below : {a x : ℕ} → Contains ns a x → Below (view ns) a x
  contains_below (Demand.one h) = one (holds_kid h)
  contains_below (Demand.more h c) = more (holds_kid h) (contains_below c)

  -- and back
  kid_holds : {a x : ℕ} → Kid (view ns) a x → Holds ns a x
  unfolding view
  kid_holds {a} c = record {
    kid = c.kid;
    mem = subst (λ (st : State). Memᴰ c.kid (kids_of st)) (sym (seen_known (state_of (at ns a)) c.state)) c.mem;
    to = find_idx ns c.kid ∙ c.to;
  }

  pub below_contains : {a x : ℕ} → Below (view ns) a x → Contains ns a x
  below_contains (one c) = Demand.one (kid_holds c)
  below_contains (more c b) = Demand.more (kid_holds c) (below_contains b)

  -- no type contains itself
  pub contains_never : (a : ℕ) → Contains ns a a → ⊥
  contains_never a c = irrefl (good.wf a) (contains_below c)
