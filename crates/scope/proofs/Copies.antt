-- What an import out of a sound source leaves, where no entry was missing: copies of its roots inside the new store, without a cycle. Assumes nothing.
use mathlib.Core.Path.{◌≡◌, refl, sym, ap, subst, ◌∙◌}
use mathlib.Core.List.Memᴰ
use mathlib.Core.List.{List, [], ◌∷◌, Memᴰ}
use mathlib.Core.Bool.{Bool, true, false, true≢false, false≢true}
use mathlib.Core.Option.{Option, none, some}
use mathlib.Core.Logic.{◌⊎◌, inl, inr}
use Prim.Native.Nat.{ℕ, zero, suc, ◌≤◌, ◌<◌}
use native.Mathlib.Omega.{arith}
use native.Mathlib.Decide.{dec_lt}
use lib.Dec.{eqb}
use lib.ListN.{length, get_elem?}
use Rattle.scope.specs.Base.{pick}
use Rattle.scope.specs.Limits.{NONE}
use Rattle.scope.specs.Chart.{Env}
use Rattle.scope.specs.Types.{Ty, ty, flip}
use Rattle.scope.specs.Kinds.{PARAM}
use Rattle.scope.specs.Nodes.{Kind, State, Known, Unknown, InferenceFailed, Node, Store, at, state_of, state_at, find, kids_of}
use Rattle.scope.specs.Sound.{falls}
use Rattle.scope.specs.Import.{Work, keep, entry, entry_at, replaced}
use Rattle.scope.specs.Calls.{import_list}
use Rattle.scope.proofs.View.{known, Kid, Good, seen, view}
use Rattle.scope.proofs.Paths.{find_inside}
use Rattle.scope.proofs.Extend.{ext_good}
use Rattle.scope.proofs.TestLaws.{of-all}
use Rattle.scope.proofs.PlanLaws.{Makeable}
use Rattle.scope.proofs.Added.{Closed, closed_held, at_end, find_added, find_new, closed_added}
use Rattle.scope.proofs.Mapping.{Source, Maps, tally_range, tally_onto}
use Rattle.scope.proofs.Copy.{copy_state, below, Became, as_copy, as_entry, lost, BecameAll, bnil, bcons, Filled, Ok}

pub not_keep : {t : Ty} → entry t ≡ keep → ⊥
not_keep {t} e = let z : ◌≡◌ {A = ℕ} 0 1 = cc in omega arith

-- an entry that stands for a Param is one of the list, or its inverse
element_in : (ts : List Ty) (n : ℕ) (t : Ty) → get_elem? ts n ≡ some t → Memᴰ t ts
element_in [] n t e = let z : ◌≡◌ {A = ℕ} 0 1 = cc in absurd (omega arith)
element_in (u ∷ ts) zero t e = let h : t ≡ u = cc in Memᴰ.head h
element_in (u ∷ ts) (suc n) t e = Memᴰ.tail (element_in ts n t e)

pub entry_in : (ps : Option (List Ty)) (st : State) (t : Ty) → replaced ps st ≡ entry t → (i : Bool) × (u : Ty) × Memᴰ u (import_list ps) × (t ≡ flip i u)
unfolding replaced
entry_in none st t e = absurd (not_keep (sym e))
entry_in (some es) (Unknown p) t e = absurd (not_keep (sym e))
entry_in (some es) InferenceFailed t e = absurd (not_keep (sym e))
entry_in (some es) (Known i k) t e = go (eqb k.head.code PARAM) (get_elem? es k.head.number) refl e
  where
    go : (b : Bool) (o : Option Ty) → get_elem? es k.head.number ≡ o → pick b (entry_at i o) keep ≡ entry t
        → (j : Bool) × (u : Ty) × Memᴰ u es × (t ≡ flip j u)
    go false o q e = absurd (not_keep (sym e))
    go true none q e = let z : ◌≡◌ {A = ℕ} 0 1 = cc in absurd (omega arith)
    go true (some u) q e = let h : t ≡ flip i u = cc in (i, u, element_in es k.head.number u q, h)

module _ {ns : List Node} {ps : Option (List Ty)} {w : Work} where
  -- each type of the second list is what one of the first became, and the other way round
  pub became_source : {cs cs' : List Ty} → BecameAll ns ps w cs cs' → (c' : Ty) → Memᴰ c' cs' → (c : Ty) × Memᴰ c cs × Became ns ps w c c'
  became_source bnil c' m = absurd (Memᴰ.not-nil m)
  became_source (bcons {c = c} b bs) c' (Memᴰ.head e) = (c, Memᴰ.head refl, subst (Became ns ps w c) (sym e) b)
  became_source (bcons b bs) c' (Memᴰ.tail m) = let z = became_source bs c' m in (z.0, Memᴰ.tail z.1, z.2)

  pub became_of : {cs cs' : List Ty} → BecameAll ns ps w cs cs' → (c : Ty) → Memᴰ c cs → (c' : Ty) × Became ns ps w c c'
  became_of bnil c m = absurd (Memᴰ.not-nil m)
  became_of (bcons {c' = c'} b bs) c (Memᴰ.head e) = (c', subst (λ (z : Ty). Became ns ps w z c') (sym e) b)
  became_of (bcons b bs) c (Memᴰ.tail m) = became_of bs c m

  pub became_length : {cs cs' : List Ty} → BecameAll ns ps w cs cs' → length cs' ≡ length cs
  became_length bnil = refl
  became_length (bcons b bs) = ap suc (became_length bs)

-- the children that a copy has
pub copy_kids : (st : State) (ts : List Ty) → length ts ≡ length (kids_of st) → length (kids_of (copy_state st ts)) ≡ length (kids_of st)
copy_kids (Known i k) ts e = e
copy_kids (Unknown p) ts e = refl
copy_kids InferenceFailed ts e = refl

copy_mem : (st : State) (ts : List Ty) (c : Ty) → Memᴰ c (kids_of (copy_state st ts)) → Memᴰ c ts
copy_mem (Known i k) ts c m = m
copy_mem (Unknown p) ts c m = absurd (Memᴰ.not-nil m)
copy_mem InferenceFailed ts c m = absurd (Memᴰ.not-nil m)

known_mem : (st : State) {i : Bool} {k : Kind} → seen st ≡ known i k → (c : Ty) → Memᴰ c k.kids → Memᴰ c (kids_of st)
known_mem (Known j m) {i} {k} e c x = let q : k ≡ m = cc in subst (λ (z : Kind). Memᴰ c z.kids) q x
known_mem (Unknown p) {i} {k} e c x = let z : ◌≡◌ {A = ℕ} 0 1 = cc in absurd (omega arith)
known_mem InferenceFailed {i} {k} e c x = let z : ◌≡◌ {A = ℕ} 0 1 = cc in absurd (omega arith)

-- the source's kind that a new one was made after
pub record After (ns : List Node) (i : Bool) (k : Kind) : Type 0 where
  pub root : ℕ
  pub kind : Kind
  pub inside : root < length ns
  pub state : state_of (at ns root) ≡ Known i kind
  pub head : k.head ≡ kind.head
  pub width : length k.kids ≡ length kind.kids

pub after_makeable : (e : Env) {ns : List Node} {i : Bool} {k : Kind} (a : After ns i k) → Makeable e a.kind → Makeable e k
after_makeable e a o = record { made = rw (a.head, a.width) o.made; def = rw a.head o.def; flag = rw a.head o.flag }

-- an import that is over
module _ (ns : List Node) (ps : Option (List Ty)) (s : Store) (w : Work) (ok : Ok ns ps s [] w) where
  pub copy_filled : (r n : ℕ) → Maps w.mapping r n → Filled ns ps w r n
  copy_filled r n m = go (ok.full r n m)
    where
      go : Memᴰ n [] ⊎ Filled ns ps w r n → Filled ns ps w r n
      go (inl o) = absurd (Memᴰ.not-nil o)
      go (inr f) = f

  pub copy_new_lem : (r n : ℕ) → Maps w.mapping r n → (length s.nodes ≤ n) × (n < length w.dest.nodes)
  copy_new_lem r n m = let h = tally_range ok.tally r n m in (h.0, omega (arith, h.1, ok.len))

  -- each new node is a root's copy
  pub new_copy : (n : ℕ) → length s.nodes ≤ n → n < length w.dest.nodes → (r : ℕ) × Maps w.mapping r n
  new_copy n p q = tally_onto ok.tally n p (omega (arith, ok.len))

  -- and so has its head, its inversion, and as many children
  pub new_kind : (n : ℕ) → length s.nodes ≤ n → (i : Bool) (k : Kind) → state_of (at w.dest.nodes n) ≡ Known i k
      → After ns i k
  new_kind n p i k e = go (dec_lt n (length w.dest.nodes))
    where
      from_copy : (r : ℕ) → Maps w.mapping r n → (st : State) → state_of (at ns r) ≡ st → (ts : List Ty) → length ts ≡ length (kids_of st)
          → copy_state st ts ≡ Known i k
          → After ns i k
      from_copy r m (Known j l) q ts h e =
          let a : j ≡ i = cc in
          let b : record { head = l.head; kids = ts } ≡ k = cc in
          record {
            root = r;
            kind = l;
            inside = ok.below r n m;
            state = q ∙ ap (λ (z : Bool). Known z l) a;
            head = sym (ap (λ (z : Kind). z.head) b);
            width = sym (ap (λ (z : Kind). length z.kids) b) ∙ h;
          }
      from_copy r m (Unknown o) q ts h e = let z : ◌≡◌ {A = ℕ} 0 1 = cc in absurd (omega arith)
      from_copy r m InferenceFailed q ts h e = let z : ◌≡◌ {A = ℕ} 0 1 = cc in absurd (omega arith)

      go : Dec (n < length w.dest.nodes)
          → After ns i k
      go (yes q) =
          let c = new_copy n p q in
          let f = copy_filled c.0 n c.1 in
          from_copy c.0 c.1 (state_of (at ns c.0)) refl f.kids (became_length f.became) (sym (ap state_of f.node) ∙ e)
      go (no q) =
          let h : Unknown NONE ≡ Known i k = sym (ap state_of (at_end w.dest.nodes n (omega arith))) ∙ e in
          let z : ◌≡◌ {A = ℕ} 0 1 = cc in
          absurd (omega arith)

  module _ (miss : w.missing ≡ false) (low : (t : Ty) → Memᴰ t (import_list ps) → t.idx < length s.nodes) where
    pub entry_low : (st : State) (t : Ty) → replaced ps st ≡ entry t → t.idx < length s.nodes
    entry_low st t e = let z = entry_in ps st t e in omega (arith, low z.1 z.2, ap (λ (x : Ty). x.idx) z.3)

    -- what a type became is in the new store
    pub became_inside : {c c' : Ty} → Became ns ps w c c' → c'.idx < length w.dest.nodes
    became_inside {c} {c'} (as_copy n m e) = omega (arith, (copy_new_lem (find ns c).idx n m).1, ap (λ (x : Ty). x.idx) e)
    became_inside {c} {c'} (as_entry t q e) = omega (arith, entry_low (state_at ns c) t q, ap (λ (x : Ty). x.idx) e, ok.ext.len)
    became_inside (lost h) = absurd (true≢false (sym h ∙ miss))

    pub types_inside : {cs cs' : List Ty} → BecameAll ns ps w cs cs' → (t : Ty) → Memᴰ t cs' → t.idx < length w.dest.nodes
    types_inside b t m = became_inside (became_source b t m).2

    new_kids : (n : ℕ) → length s.nodes ≤ n → (c : Ty) → Memᴰ c (kids_of (state_of (at w.dest.nodes n))) → c.idx < length w.dest.nodes
    new_kids n p c m = go (dec_lt n (length w.dest.nodes))
      where
        go : Dec (n < length w.dest.nodes) → c.idx < length w.dest.nodes
        go (yes q) =
            let r = new_copy n p q in
            let f = copy_filled r.0 n r.1 in
            types_inside f.became c (copy_mem (state_of (at ns r.0)) f.kids c (subst (λ (x : Node). Memᴰ c (kids_of (state_of x))) f.node m))
        go (no q) = absurd (Memᴰ.not-nil (subst (λ (x : Node). Memᴰ c (kids_of (state_of x))) (at_end w.dest.nodes n (omega arith)) m))

    module _ (closed : Closed s.nodes) where
      pub copies_closed : Closed w.dest.nodes
      copies_closed = closed_added s.nodes w.dest.nodes ok.ext closed new_kids

      -- a copy of a root from which fewer than f steps lead on
      record Deep (f n : ℕ) : Type 0 where
        root : ℕ
        maps : Maps w.mapping root n
        falling : falls f ns root ≡ true

      no_depth : (a : ℕ) → Deep zero a → ⊥
      unfolding falls
      no_depth a d = false≢true d.falling

      kid_depth : (f : ℕ) {c c' : Ty} (y : ℕ) → falls f ns (find ns c).idx ≡ true → Became ns ps w c c' → ((view w.dest.nodes).rep c'.idx).idx ≡ y
          → (y < length s.nodes) ⊎ Deep f y
      unfolding view
      kid_depth f {c} {c'} y h (as_copy n m e) q =
          let a : c'.idx ≡ n = ap (λ (x : Ty). x.idx) e in
          let new : length s.nodes ≤ c'.idx = omega (arith, (copy_new_lem (find ns c).idx n m).0) in
          let b : find w.dest.nodes (ty false c'.idx) ≡ ty false c'.idx = find_new s.nodes w.dest.nodes ok.ext closed (ty false c'.idx) new in
          inr (record { root = (find ns c).idx; maps = subst (Maps w.mapping (find ns c).idx) (sym a ∙ sym (ap (λ (x : Ty). x.idx) b) ∙ q) m; falling = h })
      kid_depth f {c} {c'} y h (as_entry t r e) q =
          let lt : c'.idx < length s.nodes = omega (arith, entry_low (state_at ns c) t r, ap (λ (x : Ty). x.idx) e) in
          let f = find_added s.nodes w.dest.nodes ok.ext closed (ty false c'.idx) in
          inl (omega (arith, q, ap (λ (x : Ty). x.idx) f, find_inside closed.forest (ty false c'.idx) lt))
      kid_depth f y h (lost l) q = absurd (true≢false (sym l ∙ miss))

      step : (f a y : ℕ) → length s.nodes ≤ a → Deep (suc f) a → Kid (view w.dest.nodes) a y → (y < length s.nodes) ⊎ Deep f y
      unfolding view falls
      step f a y p d c =
          let l = copy_filled d.root a d.maps in
          let m = known_mem (state_of (at w.dest.nodes a)) c.state c.kid c.mem in
          let z = became_source l.became c.kid
          (copy_mem (state_of (at ns d.root)) l.kids c.kid (subst (λ (x : Node). Memᴰ c.kid (kids_of (state_of x))) l.node m)) in
          kid_depth f y (of-all (λ (x : Ty). falls f ns (find ns x).idx) (kids_of (state_of (at ns d.root))) d.falling z.1) z.2 c.to

      -- no cycle
      pub copies_good : Source ns → Good (view s.nodes) → Good (view w.dest.nodes)
      unfolding view
      copies_good src good = ext_good s.nodes w.dest.nodes ok.ext closed.forest (closed_held closed) good Deep no_depth step
          (λ a p i k e. deep a p i k e (dec_lt a (length w.dest.nodes)))
        where
          deep : (a : ℕ) → length s.nodes ≤ a → (i : Bool) (k : Kind) → seen (state_of (at w.dest.nodes a)) ≡ known i k
              → Dec (a < length w.dest.nodes) → (f : ℕ) × Deep f a
          deep a p i k e (yes q) =
              let c = new_copy a p q in
              (length ns, record { root = c.0; maps = c.1; falling = src.falling c.0 (ok.below c.0 a c.1) })
          deep a p i k e (no q) =
              let h : seen (Unknown NONE) ≡ known i k = sym (ap (λ (x : Node). seen (state_of x)) (at_end w.dest.nodes a (omega arith))) ∙ e in
              let z : ◌≡◌ {A = ℕ} 0 1 = cc in
              absurd (omega arith)
