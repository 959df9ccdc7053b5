-- Parent paths: a store whose nodes all lead to roots is a forest; `find` gives the root that a node leads to, and `find_mut` changes no node's
-- root, state or size. Assumes nothing.
use mathlib.Core.Path.{◌≡◌, refl, sym, ap, subst, ◌∙◌}
use mathlib.Core.List.{List, [], ◌∷◌}
use mathlib.Core.Bool.{Bool, true, false}
use mathlib.Core.Logic.{◌≢◌, ◌⊎◌, inl, inr}
use Prim.Native.Nat.{ℕ, zero, suc, ◌+◌, ◌≤◌, ◌<◌}
use native.Mathlib.Nat.{not-suc-le-zero}
use native.Mathlib.Omega.{arith}
use native.Mathlib.Decide.{dec_lt}
use lib.ListN.{length, set, length-set, get_or-eq_default}
use lib.Seq.{get_or-set_same, get_or-set_other, set-get_or}
use Rattle.scope.specs.Limits.{NONE}
use Rattle.scope.specs.Types.{Ty, ty, flip}
use Rattle.scope.specs.Nodes.{State, Unknown, Node, Root, Child, at, is_root, state_of, size_of, climb, find, compress, find_mut}
use Rattle.scope.specs.Recall.{near_node, near}
use Rattle.scope.proofs.TestLaws.{tf}
use Rattle.scope.proofs.Laws.{climb_root, climb_child, compress_root, compress_child}
use Rattle.scope.proofs.View.{root_of, Kid, seen, view}
use Rattle.scope.proofs.ViewLaws.{same?, xor_false, xor_twice, xor_comm, flip_flip, Held}
use Rattle.scope.proofs.Free.{memb, memb_none, memb_more, free, free_nil, free_lt}

-- past the last node
abbrev pub beyond : Node
beyond = Root (Unknown NONE) 0

-- d parent steps lead from the node n to the root type r
pub data Leads (ns : List Node) : ℕ → ℕ → Ty → Type 0 where
  top : {n : ℕ} (st : State) (z : ℕ) → at ns n ≡ Root st z → Leads ns n 0 (ty false n)
  up : {n d : ℕ} {r : Ty} (t : Ty) → at ns n ≡ Child t → Leads ns t.idx d r → Leads ns n (suc d) (flip t.inv r)

pub not_child : {t : Ty} {st : State} {z : ℕ} → Root st z ≡ Child t → ⊥
not_child {t} {st} {z} e = let o : ◌≡◌ {A = ℕ} 0 1 = cc in omega arith

pub child_inj : {t u : Ty} → Child t ≡ Child u → t ≡ u
child_inj {t} {u} e = cc

pub flip_false : (i : Bool) (n : ℕ) → flip i (ty false n) ≡ ty i n
flip_false i n = ap (λ (b : Bool). ty b n) (xor_false i)

pub flip_twice : (i : Bool) (t : Ty) → flip i (flip i t) ≡ t
flip_twice i t = ap (λ (b : Bool). ty b t.idx) (xor_twice i t.inv)

-- an inversion goes along, whatever the store
pub climb_flip : (f : ℕ) (ns : List Node) (i : Bool) (t : Ty) → climb f ns (flip i t) ≡ flip i (climb f ns t)
unfolding climb
climb_flip zero ns i t = refl
climb_flip (suc f) ns i t = go (at ns t.idx) refl (λ u. climb_flip f ns i u)
  where
    go : (x : Node) → at ns t.idx ≡ x → ((u : Ty) → climb f ns (flip i u) ≡ flip i (climb f ns u)) → climb (suc f) ns (flip i t) ≡ flip i (climb (suc f) ns t)
    go (Root st z) e ih = rw (climb_root (suc f) ns (flip i t) e, climb_root (suc f) ns t e)
    go (Child u) e ih = rw (climb_child f ns (flip i t) u e, climb_child f ns t u e) (ap (climb f ns) (flip_flip i t.inv u) ∙ ih (flip t.inv u))

-- `find` as the view has it
pub find_root : (ns : List Node) (t : Ty) → find ns t ≡ root_of (view ns) t
unfolding find view
find_root ns t = ap (climb (length ns) ns) (sym (flip_false t.inv t.idx)) ∙ climb_flip (length ns) ns t.inv (ty false t.idx)

pub find_idx : (ns : List Node) (t : Ty) → (find ns t).idx ≡ ((view ns).rep t.idx).idx
find_idx ns t = ap (λ (r : Ty). r.idx) (find_root ns t)

-- a climb from a node gives the root that the node leads to
climb_leads : {ns : List Node} {n d : ℕ} {r : Ty} (f : ℕ) → Leads ns n d r → d ≤ f → climb f ns (ty false n) ≡ r
unfolding climb
climb_leads zero (top st z e) h = refl
climb_leads {ns} (suc f) (top {n = n} st z e) h = climb_root (suc f) ns (ty false n) e
climb_leads zero (up t e p) h = absurd (not-suc-le-zero h)
climb_leads {ns} (suc f) (up {n = n} {r = r} t e p) h =
    climb_child f ns (ty false n) t e ∙ ap (climb f ns) (sym (flip_false t.inv t.idx))
    ∙ climb_flip f ns t.inv (ty false t.idx) ∙ ap (flip t.inv) (climb_leads f p (omega arith))

-- the root is a root
pub leads_root : {ns : List Node} {n d : ℕ} {r : Ty} → Leads ns n d r → (st : State) × (z : ℕ) × (at ns r.idx ≡ Root st z)
leads_root (top st z e) = (st, z, e)
leads_root (up t e p) = leads_root p

-- at most one root
pub leads_same : {ns : List Node} {n d d' : ℕ} {r r' : Ty} → Leads ns n d r → Leads ns n d' r' → r ≡ r'
leads_same {d = d} {d' = d'} p q = sym (climb_leads (d + d') p (omega arith)) ∙ climb_leads (d + d') q (omega arith)

-- and one depth
pub leads_depth : {ns : List Node} {n d d' : ℕ} {r r' : Ty} → Leads ns n d r → Leads ns n d' r' → d ≡ d'
leads_depth (top st z e) (top st' z' e') = refl
leads_depth (top st z e) (up t e' q) = absurd (not_child (sym e ∙ e'))
leads_depth (up t e p) (top st z e') = absurd (not_child (sym e' ∙ e))
leads_depth {ns} (up t e p) (up {d = d'} {r = r'} t' e' q) =
    ap suc (leads_depth p (subst (λ (x : Ty). Leads ns x.idx d' r') (child_inj (sym e' ∙ e)) q))

-- a child is a node of the store
pub child_inside : (ns : List Node) (n : ℕ) {t : Ty} → at ns n ≡ Child t → n < length ns
child_inside ns n e = go (dec_lt n (length ns))
  where
    go : Dec (n < length ns) → n < length ns
    go (yes h) = h
    go (no h) = absurd (not_child (sym (get_or-eq_default ns beyond (omega arith)) ∙ e))

-- parents are nodes of the store
abbrev pub Parents : List Node → Type 0
Parents ns = (n : ℕ) (t : Ty) → at ns n ≡ Child t → t.idx < length ns

pub leads_inside : {ns : List Node} {n d : ℕ} {r : Ty} → Parents ns → Leads ns n d r → n < length ns → r.idx < length ns
leads_inside par (top st z e) h = h
leads_inside par (up {n = n} t e p) h = leads_inside par p (par n t e)

-- nodes that are deeper than d
data Deeper (ns : List Node) (d : ℕ) : List ℕ → Type 0 where
  dnil : Deeper ns d []
  dcons : {l e : ℕ} {r : Ty} {ls : List ℕ} → Leads ns l e r → d < e → Deeper ns d ls → Deeper ns d (l ∷ ls)

deeper_less : {ns : List Node} {d e : ℕ} {ls : List ℕ} → Deeper ns d ls → e ≤ d → Deeper ns e ls
deeper_less dnil h = dnil
deeper_less (dcons p q k) h = dcons p (omega arith) (deeper_less k h)

deeper_new : {ns : List Node} {n d : ℕ} {r : Ty} {ls : List ℕ} → Leads ns n d r → Deeper ns d ls → memb n ls ≡ false
deeper_new {n = n} p dnil = memb_none n
deeper_new {ns} {n} {d} p (dcons {l = l} {e = e} {r = r} {ls = ls} q h k) =
    memb_more n l ls (λ s. absurd (omega (arith, leads_depth p (subst (λ (x : ℕ). Leads ns x e r) (sym s) q)))) (deeper_new p k)

-- every child on a path is a node of the store, and none is there twice
path_free : {ns : List Node} {n d : ℕ} {r : Ty} {ls : List ℕ} → Leads ns n d r → Deeper ns d ls → d ≤ free (length ns) ls
path_free (top st z e) k = omega arith
path_free {ns} {n} {ls = ls} (up {d = d} t e p) k =
    omega (
      arith,
      free_lt n (length ns) ls (child_inside ns n e) (deeper_new (up t e p) k),
      path_free p (dcons (up t e p) (omega arith) (deeper_less k (omega arith))),
    )

-- a path has no more steps than the store has nodes, whatever the parents are
pub leads_short : {ns : List Node} {n d : ℕ} {r : Ty} → Leads ns n d r → d ≤ length ns
leads_short {ns} p = omega (arith, path_free p dnil, free_nil (length ns))

pub record Lead (ns : List Node) (n : ℕ) : Type 0 where
  pub deep : ℕ
  pub to : Ty
  pub path : Leads ns n deep to

-- every node leads to a root, inside the store
pub record Forest (ns : List Node) : Type 0 where
  pub lead : (n : ℕ) → n < length ns → Lead ns n
  pub par : Parents ns

-- also those past the end
pub lead_all : {ns : List Node} → Forest ns → (n : ℕ) → Lead ns n
lead_all {ns} ok n = go (dec_lt n (length ns))
  where
    go : Dec (n < length ns) → Lead ns n
    go (yes h) = ok.lead n h
    go (no h) = record { deep = 0; to = ty false n; path = top {n = n} (Unknown NONE) 0 (get_or-eq_default ns beyond (omega arith)) }

pub rep_leads : {ns : List Node} {n d : ℕ} {t : Ty} → Leads ns n d t → (view ns).rep n ≡ t
unfolding view find
rep_leads {ns} p = climb_leads (length ns) p (leads_short p)

pub find_leads : {ns : List Node} (t : Ty) {d : ℕ} {r : Ty} → Leads ns t.idx d r → find ns t ≡ flip t.inv r
find_leads {ns} t p = find_root ns t ∙ ap (flip t.inv) (rep_leads p)

pub rep_root : {ns : List Node} → Forest ns → (n : ℕ) → (st : State) × (z : ℕ) × (at ns ((view ns).rep n).idx ≡ Root st z)
rep_root {ns} ok n =
    let l = lead_all ok n in
    let r = leads_root l.path in
    (r.0, r.1, ap (λ (t : Ty). at ns t.idx) (rep_leads l.path) ∙ r.2)

pub rep_inside : {ns : List Node} → Forest ns → (n : ℕ) → n < length ns → ((view ns).rep n).idx < length ns
rep_inside {ns} ok n h = let l = ok.lead n h in rw (rep_leads l.path) (leads_inside ok.par l.path h)

pub find_inside : {ns : List Node} → Forest ns → (t : Ty) → t.idx < length ns → (find ns t).idx < length ns
find_inside {ns} ok t h = rw (find_root ns t) (rep_inside ok t.idx h)

-- a child's root is a node of the store
pub kid_inside : {ns : List Node} {a x : ℕ} → Forest ns → Held (length ns) (view ns) → Kid (view ns) a x → x < length ns
kid_inside {ns} {a} ok held c =
    subst (λ (z : ℕ). z < length ns) c.to (rep_inside ok c.kid.idx (held a c.inv c.kind c.state c.kid c.mem))

-- a root stands for itself
pub root_rep : {ns : List Node} {n : ℕ} {st : State} {z : ℕ} → Forest ns → at ns n ≡ Root st z → (view ns).rep n ≡ ty false n
root_rep ok e = rep_leads (top _ _ e)

pub rep_idem : {ns : List Node} → Forest ns → (n : ℕ) → (view ns).rep ((view ns).rep n).idx ≡ ty false ((view ns).rep n).idx
rep_idem ok n = root_rep ok (rep_root ok n).2

-- a root of the view is a root of the store
pub top_root : {ns : List Node} → Forest ns → (a : ℕ) → (view ns).rep a ≡ ty false a → (st : State) × (z : ℕ) × (at ns a ≡ Root st z)
top_root {ns} ok a t = let r = rep_root ok a in (r.0, r.1, ap (λ (x : Ty). at ns x.idx) (sym t) ∙ r.2)

-- the parent's path
pub leads_up : {ns : List Node} {n d : ℕ} {q : Ty} (u : Ty) → at ns n ≡ Child u → Leads ns n d q → (e : ℕ) × Leads ns u.idx e (flip u.inv q)
leads_up u e (top st z e') = absurd (not_child (sym e' ∙ e))
leads_up {ns} u e (up {d = d} {r = q} v e' p) =
    let w : v ≡ u = child_inj (sym e' ∙ e) in
    (d, subst (λ (x : Ty). Leads ns x.idx d (flip x.inv (flip v.inv q))) w (subst (Leads ns v.idx d) (sym (flip_twice v.inv q)) p))

-- pointing a node straight at its root
module _ (ns : List Node) (n : ℕ) (r : Ty) (u : Ty) (isc : at ns n ≡ Child u) (d₀ : ℕ) (here : Leads ns n d₀ r) where
  inside : n < length ns
  inside = child_inside ns n isc

  n_not_root : n ≢ r.idx
  n_not_root e = let z = leads_root here in not_child (sym z.2 ∙ ap (at ns) (sym e) ∙ isc)

  others_kept : (m : ℕ) → m ≢ n → at (set ns n (Child r)) m ≡ at ns m
  others_kept m k = get_or-set_other ns n m (Child r) beyond k

  pointed : at (set ns n (Child r)) n ≡ Child r
  pointed = get_or-set_same ns n (Child r) beyond inside

  short : {m d : ℕ} {t : Ty} → Leads ns m d t → (e : ℕ) × (e ≤ d) × Leads (set ns n (Child r)) m e t
  short (top {n = m} st z e) = (0, omega arith, top st z (others_kept m (λ q. not_child (sym e ∙ ap (at ns) q ∙ isc)) ∙ e))
  short (up {n = m} {d = d} {r = t} v e p) = go (short p) (same? m n)
    where
      z : (st : State) × (z : ℕ) × (at ns r.idx ≡ Root st z)
      z = leads_root here

      direct : Leads (set ns n (Child r)) n 1 r
      direct = subst (Leads (set ns n (Child r)) n 1) (flip_false r.inv r.idx)
          (up r pointed (top z.0 z.1 (others_kept r.idx (λ q. n_not_root (sym q)) ∙ z.2)))

      go : ((e : ℕ) × (e ≤ d) × Leads (set ns n (Child r)) v.idx e t) → (m ≡ n) ⊎ (m ≢ n) → (e : ℕ) × (e ≤ suc d) × Leads (set ns n (Child r)) m e (flip v.inv t)
      go ih (inl q) = (
        1,
        omega arith,
        subst (λ (x : ℕ). Leads (set ns n (Child r)) x 1 (flip v.inv t)) (sym q)
            (subst (Leads (set ns n (Child r)) n 1) (leads_same here (subst (λ (x : ℕ). Leads ns x (suc d) (flip v.inv t)) q (up v e p))) direct),
      )
      go ih (inr q) = (suc ih.0, omega (arith, ih.1), up v (others_kept m q ∙ e) ih.2)

-- what compression keeps: every root, every root's state and size; no path grows
pub record Tidied (ns ns' : List Node) : Type 0 where
  pub len : length ns' ≡ length ns
  pub paths : {m d : ℕ} {t : Ty} → Leads ns m d t → (e : ℕ) × (e ≤ d) × Leads ns' m e t
  pub sts : (m : ℕ) → state_of (at ns' m) ≡ state_of (at ns m)
  pub szs : (m : ℕ) → size_of (at ns' m) ≡ size_of (at ns m)
  pub par : Parents ns → Parents ns'

pub tidied_refl : {ns : List Node} → Tidied ns ns
tidied_refl = record { len = refl; paths = λ {m} {d} {t} p. (d, omega arith, p); sts = λ m. refl; szs = λ m. refl; par = λ h. h }

pub tidied_trans : {ns ns' ns'' : List Node} → Tidied ns ns' → Tidied ns' ns'' → Tidied ns ns''
tidied_trans a b = record {
  len = b.len ∙ a.len;
  paths = λ p. let x = a.paths p in let y = b.paths x.2 in (y.0, omega (arith, x.1, y.1), y.2);
  sts = λ m. b.sts m ∙ a.sts m;
  szs = λ m. b.szs m ∙ a.szs m;
  par = λ h. b.par (a.par h);
}

point_tidied : (ns : List Node) (n : ℕ) (r u : Ty) → at ns n ≡ Child u → (d : ℕ) → Leads ns n d r → Parents ns → Tidied ns (set ns n (Child r))
point_tidied ns n r u isc d p par = record {
  len = length-set ns n (Child r);
  paths = λ q. short ns n r u isc d p q;
  sts = λ m. at_m state_of refl m (same? m n);
  szs = λ m. at_m size_of refl m (same? m n);
  par = λ k m t e. subst (λ (x : ℕ). t.idx < x) (sym (length-set ns n (Child r))) (par' m t e (same? m n));
}
  where
    at_m : {A : Type 0} (f : Node → A) → f (Child r) ≡ f (Child u) → (m : ℕ) → (m ≡ n) ⊎ (m ≢ n) → f (at (set ns n (Child r)) m) ≡ f (at ns m)
    at_m f q m (inl e) =
        ap (λ (x : ℕ). f (at (set ns n (Child r)) x)) e ∙ ap f (pointed ns n r u isc d p) ∙ q ∙ ap f (sym isc) ∙ ap (λ (x : ℕ). f (at ns x)) (sym e)
    at_m f q m (inr e) = ap f (others_kept ns n r u isc d p m e)

    par' : (m : ℕ) (t : Ty) → at (set ns n (Child r)) m ≡ Child t → (m ≡ n) ⊎ (m ≢ n) → t.idx < length ns
    par' m t e (inl q) =
        subst (λ (x : Ty). x.idx < length ns) (child_inj (sym (pointed ns n r u isc d p) ∙ ap (at (set ns n (Child r))) (sym q) ∙ e))
        (leads_inside par p (child_inside ns n isc))
    par' m t e (inr q) = par m t (sym (others_kept ns n r u isc d p m q) ∙ e)

-- compression keeps every node's meaning
compress_tidied : (f : ℕ) (ns : List Node) (r t : Ty) → Parents ns → (d : ℕ) → Leads ns t.idx d (flip t.inv r) → Tidied ns (compress f ns r t)
unfolding compress
compress_tidied zero ns r t par d p = tidied_refl
compress_tidied (suc f) ns r t par d p = go (at ns t.idx) refl (λ ns' t' par' d' p'. compress_tidied f ns' r t' par' d' p')
  where
    go : (x : Node) → at ns t.idx ≡ x
        → ((ns' : List Node) (t' : Ty) → Parents ns' → (d : ℕ) → Leads ns' t'.idx d (flip t'.inv r) → Tidied ns' (compress f ns' r t'))
        → Tidied ns (compress (suc f) ns r t)
    go (Root st z) e ih = rw (compress_root (suc f) ns r t e) tidied_refl
    go (Child u) e ih =
        let one = point_tidied ns t.idx (flip t.inv r) u e d p par in
        let b = leads_up u e p in
        let b' = one.paths b.1 in
        rw (compress_child f ns r t u e) (tidied_trans one (ih (set ns t.idx (Child (flip t.inv r))) (flip t.inv u) (one.par par)
        b'.0 (subst (Leads (set ns t.idx (Child (flip t.inv r))) u.idx b'.0)
        (sym (flip_flip u.inv t.inv r) ∙ ap (λ (c : Bool). flip c r) (xor_comm u.inv t.inv)) b'.2)))

-- `find_mut`
pub find_mut_tidied : {ns : List Node} → Forest ns → (t : Ty) → Tidied ns (find_mut ns t)
unfolding find_mut
find_mut_tidied {ns} ok t = go (lead_all ok t.idx)
  where
    go : Lead ns t.idx → Tidied ns (compress (length ns) ns (find ns t) t)
    go l = compress_tidied (length ns) ns (find ns t) t ok.par l.deep
        (subst (Leads ns t.idx l.deep) (sym (flip_twice t.inv l.to) ∙ ap (flip t.inv) (sym (find_leads t l.path))) l.path)

pub tidied_forest : {ns ns' : List Node} → Tidied ns ns' → Forest ns → Forest ns'
tidied_forest {ns} {ns'} t ok = record {
  lead = λ n h. go n (ok.lead n (subst (λ (x : ℕ). n < x) t.len h));
  par = t.par ok.par;
}
  where
    go : (n : ℕ) → Lead ns n → Lead ns' n
    go n l = let p = t.paths l.path in record { deep = p.0; to = l.to; path = p.2 }

pub tidied_view : {ns ns' : List Node} → Tidied ns ns' → Forest ns → view ns' ≡ view ns
unfolding view
tidied_view {ns} {ns'} t ok = λ i. record { rep = λ n. reps n i; st = λ n. seen (t.sts n i); sz = λ n. t.szs n i }
  where
    reps : (n : ℕ) → find ns' (ty false n) ≡ find ns (ty false n)
    reps n = let l = lead_all ok n in rep_leads (t.paths l.path).2 ∙ sym (rep_leads l.path)

-- a type that is near: `find_mut` changes no node

near_by : (f : ℕ) (ns : List Node) (t : Ty) → near ns t ≡ true → compress f ns (climb f ns t) t ≡ ns
unfolding compress
near_by zero ns t h = refl
near_by (suc f) ns t h = go (at ns t.idx) refl h
  where
    under : (u : Ty) (v : Node) → at ns t.idx ≡ Child u → at ns u.idx ≡ v → is_root v ≡ true → compress (suc f) ns (climb (suc f) ns t) t ≡ ns
    under u (Root st z) e q r =
        let c : climb (suc f) ns t ≡ flip t.inv u = climb_child f ns t u e ∙ climb_root f ns (flip t.inv u) q in
        let s : set ns t.idx (Child (flip t.inv (flip t.inv u))) ≡ ns =
        ap (λ (v : Ty). set ns t.idx (Child v)) (flip_twice t.inv u) ∙ (ap (set ns t.idx) (sym e) ∙ set-get_or ns t.idx _) in
        ap (λ (r : Ty). compress (suc f) ns r t) c
        ∙ (compress_child f ns (flip t.inv u) t u e
        ∙ (ap (λ (ms : List Node). compress f ms (flip t.inv u) (flip t.inv u)) s ∙ compress_root f ns (flip t.inv u) (flip t.inv u) q))
    under u (Child v) e q r = tf (sym r)

    go : (v : Node) → at ns t.idx ≡ v → near_node ns v ≡ true → compress (suc f) ns (climb (suc f) ns t) t ≡ ns
    go (Root st z) e r = compress_root (suc f) ns (climb (suc f) ns t) t e
    go (Child u) e r = under u (at ns u.idx) e refl r

pub near_stays : (ns : List Node) (t : Ty) → near ns t ≡ true → find_mut ns t ≡ ns
unfolding find_mut find
near_stays ns t h = near_by (length ns) ns t h

pub near_root : (ns : List Node) (t : Ty) → is_root (at ns t.idx) ≡ true → find_mut ns t ≡ ns
near_root ns t h = near_stays ns t (go (at ns t.idx) h)
  where
    go : (v : Node) → is_root v ≡ true → near_node ns v ≡ true
    go (Root st z) e = refl
    go (Child u) e = tf (sym e)

-- a root's child is pointed at its parent again
pub near_child : (ns : List Node) (t u : Ty) → at ns t.idx ≡ Child u → is_root (at ns u.idx) ≡ true → find_mut ns t ≡ ns
near_child ns t u e r = near_stays ns t (rw e r)
