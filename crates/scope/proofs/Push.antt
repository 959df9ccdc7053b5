-- One new root behind a store, as a maker leaves it. Assumes nothing.
use mathlib.Core.Path.{◌≡◌, sym, ap, subst, ◌∙◌}
use mathlib.Core.List.{List, [], ◌∷◌, Memᴰ}
use mathlib.Core.Bool.{Bool}
use mathlib.Core.Logic.{◌≢◌, ◌⊎◌, inl, inr}
use Prim.Native.Nat.{ℕ, suc, ◌<◌}
use native.Mathlib.Omega.{arith}
use native.Mathlib.Decide.{dec_lt}
use lib.ListN.{length, length-append, get_or-append, get_or-eq_default}
use lib.Seq.{get_or-append_seam}
use Rattle.scope.specs.Types.{Ty}
use Rattle.scope.specs.Nodes.{Kind, State, Node, Root, at, state_of}
use Rattle.scope.specs.Make.{push}
use Rattle.scope.proofs.View.{known, Good, seen, view}
use Rattle.scope.proofs.ViewLaws.{same?, Held}
use Rattle.scope.proofs.Paths.{beyond, Forest, rep_inside}
use Rattle.scope.proofs.Extend.{ext_rep, ext_good, Extends}

module _ (ns : List Node) (st : State) where
  pub push_len : length (push ns st) ≡ suc (length ns)
  push_len = length-append ns (Root st 1 ∷ []) ∙ omega arith

  pub push_new : at (push ns st) (length ns) ≡ Root st 1
  push_new = get_or-append_seam ns (Root st 1) [] beyond

  pub push_old : (n : ℕ) → n ≢ length ns → at (push ns st) n ≡ at ns n
  push_old n h = go (dec_lt n (length ns))
    where
      go : Dec (n < length ns) → at (push ns st) n ≡ at ns n
      go (yes q) = get_or-append ns (Root st 1 ∷ []) beyond n q
      go (no q) = get_or-eq_default (push ns st) beyond (omega (arith, push_len)) ∙ sym (get_or-eq_default ns beyond (omega arith))

  pub push_extends : Extends ns (push ns st)
  push_extends = record {
    len = omega (arith, push_len);
    old = λ n h. push_old n (λ q. absurd (omega arith));
    new = λ n a b. let e : n ≡ length ns = omega (arith, push_len) in (st, ap (at (push ns st)) e ∙ push_new);
  }

  -- the children of the new kind are old nodes
  module _ (ok : Forest ns) (held : Held (length ns) (view ns))
      (kids : (i : Bool) (k : Kind) → seen st ≡ known i k → (t : Ty) → Memᴰ t k.kids → t.idx < length ns) where
    pub push_held : Held (length ns) (view (push ns st))
    unfolding view
    push_held a i k e = go (same? a (length ns))
      where
        go : (a ≡ length ns) ⊎ (a ≢ length ns) → (t : Ty) → Memᴰ t k.kids → t.idx < length ns
        go (inl q) = kids i k (ap (λ (x : Node). seen (state_of x)) (sym push_new ∙ ap (at (push ns st)) (sym q)) ∙ e)
        go (inr q) = held a i k (ap (λ (x : Node). seen (state_of x)) (sym (push_old a q)) ∙ e)

    pub push_good : Good (view ns) → Good (view (push ns st))
    push_good good = ext_good ns (push ns st) push_extends ok held good (λ f a. 0 < f) (λ a h. absurd (omega arith))
        (λ f a y h o c. inl (subst (λ (z : ℕ). z < length ns) (ap (λ (t : Ty). t.idx) (sym (ext_rep ns (push ns st) push_extends ok c.kid.idx)) ∙ c.to)
        (rep_inside ok c.kid.idx (push_held a c.inv c.kind c.state c.kid c.mem))))
        (λ a h i k e. (1, omega arith))
