-- New roots of size 1 behind the old nodes, as makers and imports leave them: no old node's root, depth, state or size changes, and there is no cycle
-- if the new ones have a depth. Assumes nothing.
use mathlib.Core.Path.{◌≡◌, sym, ap, ◌∙◌}
use mathlib.Core.List.{List, ◌∷◌}
use mathlib.Core.Bool.{Bool, false}
use mathlib.Core.Logic.{◌⊎◌, inl, inr}
use Prim.Native.Nat.{ℕ, ◌+◌, ◌^◌, ◌≤◌, ◌<◌, ◌-◌, zero, suc}
use native.Mathlib.Omega.{arith}
use native.Mathlib.Decide.{dec_lt}
use lib.Dec.{eqb}
use lib.ListN.{length, get_or-eq_default}
use borrow.Author.Tests.{ne_eqb}
use Rattle.scope.specs.Base.{count, from}
use Rattle.scope.specs.Limits.{NONE}
use Rattle.scope.specs.Types.{Ty, ty}
use Rattle.scope.specs.Nodes.{Kind, State, Unknown, Node, Root, Child, at, state_of, size_of}
use Rattle.scope.proofs.View.{known, Kid, Fin, fin, Good, seen, view}
use Rattle.scope.proofs.ViewLaws.{Held}
use Rattle.scope.proofs.Paths.{beyond, Leads, top, up, not_child, child_inside, leads_inside, Lead, Forest, lead_all, rep_leads, rep_inside, kid_inside, rep_idem, root_rep}
use Rattle.scope.proofs.Merge.{Shallow}
use Rattle.scope.proofs.Sizes.{count_split, count_none, count_same, count_one, eqb_sym, Sized}

pub record Extends (ns ns' : List Node) : Type 0 where
  pub len : length ns ≤ length ns'
  pub old : (n : ℕ) → n < length ns → at ns' n ≡ at ns n
  pub new : (n : ℕ) → length ns ≤ n → n < length ns' → (st : State) × (at ns' n ≡ Root st 1)

pub extends_tail : {n n' : Node} {ns ns' : List Node} → Extends (n ∷ ns) (n' ∷ ns') → Extends ns ns'
extends_tail x = record {
  len = omega (arith, x.len);
  old = λ m q. x.old (suc m) (omega arith);
  new = λ m q p. x.new (suc m) (omega arith) (omega arith);
}

module _ (ns ns' : List Node) (x : Extends ns ns') (ok : Forest ns) where
  ext_root : (n : ℕ) → length ns ≤ n → (st : State) × (z : ℕ) × (at ns' n ≡ Root st z)
  ext_root n h = go (dec_lt n (length ns'))
    where
      go : Dec (n < length ns') → (st : State) × (z : ℕ) × (at ns' n ≡ Root st z)
      go (yes q) = let r = x.new n h q in (r.0, 1, r.1)
      go (no q) = (Unknown NONE, 0, get_or-eq_default ns' beyond (omega arith))

  ext_path : {n d : ℕ} {t : Ty} → Leads ns n d t → Leads ns' n d t
  ext_path (top {n = n} st z e) = go (dec_lt n (length ns))
    where
      go : Dec (n < length ns) → Leads ns' n 0 (ty false n)
      go (yes q) = top st z (x.old n q ∙ e)
      go (no q) = let r = ext_root n (omega arith) in top r.0 r.1 r.2
  ext_path (up {n = n} t e p) = up t (x.old n (child_inside ns n e) ∙ e) (ext_path p)

  pub ext_forest : Forest ns'
  ext_forest = record { lead = lead; par = par }
    where
      lead : (n : ℕ) → n < length ns' → Lead ns' n
      lead n h = let l = lead_all ok n in record { deep = l.deep; to = l.to; path = ext_path l.path }

      par : (n : ℕ) (t : Ty) → at ns' n ≡ Child t → t.idx < length ns'
      par n t e = go (dec_lt n (length ns))
        where
          go : Dec (n < length ns) → t.idx < length ns'
          go (yes q) = omega (arith, x.len, ok.par n t (sym (x.old n q) ∙ e))
          go (no q) = let r = ext_root n (omega arith) in absurd (not_child (sym r.2 ∙ e))

  pub ext_shallow : Shallow ns → Shallow ns'
  ext_shallow low n h = go (dec_lt n (length ns))
    where
      go : Dec (n < length ns) → (l : Lead ns' n) × (2 ^ l.deep ≤ size_of (at ns' l.to.idx))
      go (yes q) =
          let l = low n q in (
            record { deep = l.0.deep; to = l.0.to; path = ext_path l.0.path },
            omega (arith, l.1, ap size_of (x.old l.0.to.idx (leads_inside ok.par l.0.path q))),
          )
      go (no q) = let r = x.new n (omega arith) h in (record { deep = 0; to = ty false n; path = top r.0 1 r.1 }, omega (arith, ap size_of r.1))

  pub ext_rep : (n : ℕ) → (view ns').rep n ≡ (view ns).rep n
  ext_rep n = let l = lead_all ok n in rep_leads (ext_path l.path) ∙ sym (rep_leads l.path)

  pub ext_st : (n : ℕ) → n < length ns → (view ns').st n ≡ (view ns).st n
  unfolding view
  ext_st n h = ap (λ (y : Node). seen (state_of y)) (x.old n h)

  -- a new node stands for itself
  pub new_rep : (n : ℕ) → length ns ≤ n → (view ns').rep n ≡ ty false n
  new_rep n h = root_rep ext_forest (ext_root n h).2

  pub ext_sized : Sized (length ns) (view ns) → Sized (length ns') (view ns')
  unfolding view
  ext_sized sized i h = go (dec_lt i (length ns))
    where
      p : ℕ → Bool
      p j = eqb ((view ns').rep j).idx i

      split : count p (from 0 (length ns')) ≡ count p (from 0 (length ns)) + count p (from (length ns) (length ns' - length ns))
      split = count_split p (length ns) (length ns') x.len

      at_new : (j : ℕ) → length ns ≤ j → ((view ns').rep j).idx ≡ j
      at_new j a = ap (λ (t : Ty). t.idx) (new_rep j a)

      at_old : (j : ℕ) → ((view ns').rep j).idx ≡ ((view ns).rep j).idx
      at_old j = ap (λ (t : Ty). t.idx) (ext_rep j)

      go : Dec (i < length ns) → size_of (at ns' i) ≡ count p (from 0 (length ns'))
      go (yes q) = omega (
        arith,
        split,
        ap size_of (x.old i q),
        sized i q,
        count_same p (λ j. eqb ((view ns).rep j).idx i) 0 (length ns) (λ j a b. ap (λ (k : ℕ). eqb k i) (at_old j)),
        count_none p (length ns) (length ns' - length ns) (λ j a b. ne_eqb ((view ns').rep j).idx i (λ e. absurd (omega (arith, at_new j a)))),
      )
      go (no q) = omega (
        arith,
        split,
        ap size_of (x.new i (omega arith) h).1,
        count_none p 0 (length ns) (λ j a b. ne_eqb ((view ns').rep j).idx i (λ e. absurd (omega (arith, at_old j, rep_inside ok j (omega arith))))),
        count_same p (eqb i) (length ns) (length ns' - length ns) (λ j a b. ap (λ (k : ℕ). eqb k i) (at_new j a) ∙ eqb_sym j i),
        count_one i (length ns) (length ns' - length ns) (omega arith) (omega (arith, x.len)),
      )

  module _ (held : Held (length ns) (view ns)) (good : Good (view ns)) where
    kid_old : {a y : ℕ} → a < length ns → Kid (view ns') a y → Kid (view ns) a y
    kid_old {a} q c = record {
      inv = c.inv;
      kind = c.kind;
      kid = c.kid;
      top = sym (ext_rep a) ∙ c.top;
      state = sym (ext_st a q) ∙ c.state;
      mem = c.mem;
      to = ap (λ (t : Ty). t.idx) (sym (ext_rep c.kid.idx)) ∙ c.to;
    }

    fin_old : {a : ℕ} → a < length ns → Fin (view ns) a → Fin (view ns') a
    fin_old {a} q (fin f) = fin (λ y c. let d = kid_old q c in fin_old (kid_inside ok held d) (f y d))

    -- new roots that have a depth, each below its children's unless these are old
    module _ (D : ℕ → ℕ → Type 0) (none : (a : ℕ) → D zero a → ⊥)
        (step : (f a y : ℕ) → length ns ≤ a → D (suc f) a → Kid (view ns') a y → (y < length ns) ⊎ D f y)
        (deep : (a : ℕ) → length ns ≤ a → (i : Bool) (k : Kind) → (view ns').st a ≡ known i k → (f : ℕ) × D f a) where
      fin_new : (f a : ℕ) → D f a → Fin (view ns') a
      fin_new zero a d = absurd (none a d)
      fin_new (suc f) a d = go (dec_lt a (length ns)) (λ b e. fin_new f b e)
        where
          next : ((b : ℕ) → D f b → Fin (view ns') b) → (y : ℕ) → (y < length ns) ⊎ D f y → Fin (view ns') y
          next ih y (inl q) = fin_old q (good.wf y)
          next ih y (inr e) = ih y e

          go : Dec (a < length ns) → ((b : ℕ) → D f b → Fin (view ns') b) → Fin (view ns') a
          go (yes q) ih = fin_old q (good.wf a)
          go (no q) ih = fin (λ y c. next ih y (step f a y (omega arith) d c))

      fin_all : (a : ℕ) → Fin (view ns') a
      fin_all a = go (dec_lt a (length ns))
        where
          below : (y : ℕ) → Kid (view ns') a y → Fin (view ns') a → Fin (view ns') y
          below y c (fin g) = g y c

          go : Dec (a < length ns) → Fin (view ns') a
          go (yes q) = fin_old q (good.wf a)
          go (no q) = fin (λ y c. let d = deep a (omega arith) c.inv c.kind c.state in below y c (fin_new d.0 a d.1))

      pub ext_good : Good (view ns')
      ext_good = record { idem = rep_idem ext_forest; wf = fin_all }
