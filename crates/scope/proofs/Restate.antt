-- Roots without a kind that become failed or Default, as forcing and finishing leave them: no node's root or size changes, and no kind but Default
-- appears. Assumes nothing.
use mathlib.Core.Path.{◌≡◌, refl, sym, ap, subst, ◌∙◌}
use mathlib.Core.List.{List, [], ◌∷◌, Memᴰ, map}
use mathlib.Core.Bool.{Bool, true, false, not}
use mathlib.Core.Logic.{◌≢◌, ◌⊎◌, inl, inr}
use Prim.Native.Nat.{ℕ, zero, suc, ◌^◌, ◌≤◌, ◌<◌}
use native.Mathlib.Omega.{arith}
use lib.Dec.{eqb}
use lib.ListN.{length, set, length-set, length-map}
use lib.Seq.{get_or-set_same, get_or-set_other}
use Rattle.scope.specs.Base.{count, from}
use Rattle.scope.specs.Types.{Ty}
use Rattle.scope.specs.Kinds.{DEFAULT}
use Rattle.scope.specs.Nodes.{Kind, State, Known, Unknown, InferenceFailed, Node, Root, Child, at, state_of, size_of, is_known}
use Rattle.scope.specs.Make.{bare}
use Rattle.scope.specs.Force.{finish_node, finish_where, finish_inference}
use Rattle.scope.proofs.View.{known, Kid, Fin, fin, Good, seen, view}
use Rattle.scope.proofs.ViewLaws.{same?, not_known}
use Rattle.scope.proofs.Paths.{beyond, Leads, top, up, not_child, Lead, Forest, lead_all, rep_leads, rep_idem}
use Rattle.scope.proofs.Merge.{Shallow}
use Rattle.scope.proofs.Sizes.{count_same, Sized}

pub data Restated : Node → Node → Type 0 where
  kept : {x : Node} → Restated x x
  failed : {p z : ℕ} → Restated (Root (Unknown p) z) (Root InferenceFailed z)
  default_of : {st : State} {z : ℕ} → is_known st ≡ false → Restated (Root st z) (Root (Known false (bare DEFAULT)) z)

pub record Restates (ns ns' : List Node) : Type 0 where
  pub len : length ns' ≡ length ns
  pub nodes : (n : ℕ) → Restated (at ns n) (at ns' n)

root_on : {x y : Node} → Restated x y → (st : State) (z : ℕ) → x ≡ Root st z → (st' : State) × (y ≡ Root st' z)
root_on kept st z e = (st, e)
root_on (failed {z = z'}) st z e = (InferenceFailed, ap (λ (n : Node). Root InferenceFailed (size_of n)) e)
root_on (default_of {z = z'} q) st z e = (Known false (bare DEFAULT), ap (λ (n : Node). Root (Known false (bare DEFAULT)) (size_of n)) e)

child_on : {x y : Node} → Restated x y → (t : Ty) → x ≡ Child t → y ≡ Child t
child_on kept t e = e
child_on failed t e = absurd (not_child e)
child_on (default_of q) t e = absurd (not_child e)

child_back : {x y : Node} → Restated x y → (t : Ty) → y ≡ Child t → x ≡ Child t
child_back kept t e = e
child_back failed t e = absurd (not_child e)
child_back (default_of q) t e = absurd (not_child e)

size_on : {x y : Node} → Restated x y → size_of y ≡ size_of x
size_on kept = refl
size_on failed = refl
size_on (default_of q) = refl

-- a kind stays, and a new one is Default
known_on : {x y : Node} {i : Bool} {k : Kind} → Restated x y → seen (state_of x) ≡ known i k → seen (state_of y) ≡ known i k
known_on kept e = e
known_on failed e = absurd (not_known e)
known_on (default_of {st = Known j m} q) e = let z : ◌≡◌ {A = ℕ} 0 1 = cc in absurd (omega arith)
known_on (default_of {st = Unknown p} q) e = absurd (not_known e)
known_on (default_of {st = InferenceFailed} q) e = absurd (not_known e)

known_back : {x y : Node} {i : Bool} {k : Kind} → Restated x y → seen (state_of y) ≡ known i k → (seen (state_of x) ≡ known i k) ⊎ (k ≡ bare DEFAULT)
known_back kept e = inl e
known_back failed e = absurd (not_known e)
known_back {k = k} (default_of q) e = inr (same e)
  where
    same : {i j : Bool} {k m : Kind} → known i m ≡ known j k → k ≡ m
    same e = cc

module _ (ns ns' : List Node) (x : Restates ns ns') where
  restates_path : {m d : ℕ} {t : Ty} → Leads ns m d t → Leads ns' m d t
  restates_path (top {n = n} st z e) = let r = root_on (x.nodes n) st z e in top r.0 z r.1
  restates_path (up {n = n} t e p) = up t (child_on (x.nodes n) t e) (restates_path p)

  pub restates_sz : (n : ℕ) → (view ns').sz n ≡ (view ns).sz n
  unfolding view
  restates_sz n = size_on (x.nodes n)

  pub restates_known : (a : ℕ) (i : Bool) (k : Kind) → (view ns).st a ≡ known i k → (view ns').st a ≡ known i k
  unfolding view
  restates_known a i k e = known_on (x.nodes a) e

  pub restates_kind : (a : ℕ) (i : Bool) (k : Kind) → (view ns').st a ≡ known i k → ((view ns).st a ≡ known i k) ⊎ (k ≡ bare DEFAULT)
  unfolding view
  restates_kind a i k e = known_back (x.nodes a) e

  pub restates_shallow : Shallow ns → Shallow ns'
  restates_shallow low n h = go (low n (subst (λ (m : ℕ). n < m) x.len h))
    where
      go : (l : Lead ns n) × (2 ^ l.deep ≤ size_of (at ns l.to.idx)) → (l : Lead ns' n) × (2 ^ l.deep ≤ size_of (at ns' l.to.idx))
      go l = (record { deep = l.0.deep; to = l.0.to; path = restates_path l.0.path }, omega (arith, l.1, size_on (x.nodes l.0.to.idx)))

  module _ (ok : Forest ns) where
    pub restates_forest : Forest ns'
    restates_forest = record {
      lead = λ n h. let l = lead_all ok n in record { deep = l.deep; to = l.to; path = restates_path l.path };
      par = λ n t e. subst (λ (m : ℕ). t.idx < m) (sym x.len) (ok.par n t (child_back (x.nodes n) t e));
    }

    pub restates_rep : (n : ℕ) → (view ns').rep n ≡ (view ns).rep n
    restates_rep n = let l = lead_all ok n in rep_leads (restates_path l.path) ∙ sym (rep_leads l.path)

    pub restates_sized : Sized (length ns) (view ns) → Sized (length ns') (view ns')
    restates_sized sized i h =
        restates_sz i ∙ sized i (subst (λ (m : ℕ). i < m) x.len h)
        ∙ count_same (λ j. eqb ((view ns).rep j).idx i) (λ j. eqb ((view ns').rep j).idx i) 0 (length ns) (λ j a b. ap (λ (t : Ty). eqb t.idx i) (sym (restates_rep j)))
        ∙ ap (λ (m : ℕ). count (λ j. eqb ((view ns').rep j).idx i) (from 0 m)) (sym x.len)

    fin_on : {a : ℕ} → Fin (view ns) a → Fin (view ns') a
    fin_on {a} (fin f) = fin (λ y c. go y c (restates_kind a c.inv c.kind c.state) (λ d. fin_on (f y d)))
      where
        go : (y : ℕ) (c : Kid (view ns') a y) → ((view ns).st a ≡ known c.inv c.kind) ⊎ (c.kind ≡ bare DEFAULT) → (Kid (view ns) a y → Fin (view ns') y) → Fin (view ns') y
        go y c (inl s) ih = ih (record {
          inv = c.inv;
          kind = c.kind;
          kid = c.kid;
          top = sym (restates_rep a) ∙ c.top;
          state = s;
          mem = c.mem;
          to = ap (λ (t : Ty). t.idx) (sym (restates_rep c.kid.idx)) ∙ c.to;
        })
        go y c (inr s) ih = elim (subst (λ (k : Kind). Memᴰ c.kid k.kids) s c.mem) [ ]

    pub restates_good : Good (view ns) → Good (view ns')
    restates_good good = record { idem = rep_idem restates_forest; wf = λ a. fin_on (good.wf a) }

-- `force_kind`'s failed mark
pub failed_restates : (ns : List Node) (r p z : ℕ) → r < length ns → at ns r ≡ Root (Unknown p) z → Restates ns (set ns r (Root InferenceFailed z))
failed_restates ns r p z h e = record { len = length-set ns r (Root InferenceFailed z); nodes = λ n. go n (same? n r) }
  where
    go : (n : ℕ) → (n ≡ r) ⊎ (n ≢ r) → Restated (at ns n) (at (set ns r (Root InferenceFailed z)) n)
    go n (inl q) = rw (q, e, get_or-set_same ns r (Root InferenceFailed z) beyond h) failed
    go n (inr q) = rw (get_or-set_other ns r n (Root InferenceFailed z) beyond q) kept

-- and this is no part of the view
pub failed_view : (ns : List Node) (r p z : ℕ) → r < length ns → at ns r ≡ Root (Unknown p) z → Forest ns → view (set ns r (Root InferenceFailed z)) ≡ view ns
unfolding view
failed_view ns r p z h e ok = λ i. record { rep = λ n. restates_rep ns ns' x ok n i; st = λ n. sts n (same? n r) i; sz = λ n. restates_sz ns ns' x n i }
  where
    ns' : List Node
    ns' = set ns r (Root InferenceFailed z)

    x : Restates ns ns'
    x = failed_restates ns r p z h e

    sts : (n : ℕ) → (n ≡ r) ⊎ (n ≢ r) → seen (state_of (at ns' n)) ≡ seen (state_of (at ns n))
    sts n (inl q) = rw (q, e, get_or-set_same ns r (Root InferenceFailed z) beyond h)
    sts n (inr q) = rw (get_or-set_other ns r n (Root InferenceFailed z) beyond q)

finish_node_lem : (b : Bool) (x : Node) → Restated x (finish_node b x)
finish_node_lem true (Root (Known i k) z) = kept
finish_node_lem false (Root (Known i k) z) = kept
finish_node_lem true (Root (Unknown p) z) = default_of refl
finish_node_lem false (Root (Unknown p) z) = kept
finish_node_lem true (Root InferenceFailed z) = default_of refl
finish_node_lem false (Root InferenceFailed z) = kept
finish_node_lem b (Child t) = kept

pub where_len : (bs : List ℕ) (ns : List Node) → length (finish_where bs ns) ≡ length ns
unfolding finish_where
where_len bs [] = refl
where_len [] (x ∷ ns) = refl
where_len (b ∷ bs) (x ∷ ns) = ap suc (where_len bs ns)

where_nodes : (bs : List ℕ) (ns : List Node) (n : ℕ) → Restated (at ns n) (at (finish_where bs ns) n)
unfolding finish_where
where_nodes bs [] n = kept
where_nodes [] (x ∷ ns) n = kept
where_nodes (b ∷ bs) (x ∷ ns) zero = finish_node_lem (not (eqb b 0)) x
where_nodes (b ∷ bs) (x ∷ ns) (suc n) = where_nodes bs ns n

pub finish_where_restates : (bs : List ℕ) (ns : List Node) → Restates ns (finish_where bs ns)
finish_where_restates bs ns = record { len = where_len bs ns; nodes = where_nodes bs ns }

all_nodes : (ns : List Node) (n : ℕ) → Restated (at ns n) (at (map (finish_node true) ns) n)
all_nodes [] n = kept
all_nodes (x ∷ ns) zero = finish_node_lem true x
all_nodes (x ∷ ns) (suc n) = all_nodes ns n

pub finish_restates : (ns : List Node) → Restates ns (finish_inference ns)
unfolding finish_inference
finish_restates ns = record { len = length-map ns (finish_node true); nodes = all_nodes ns }
