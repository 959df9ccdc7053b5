-- The trees of an import's copies: a copy may have its root's tree, and a type that was moved has the tree that it had, where each Param that is
-- replaced stands for its entry's tree. Assumes nothing.
use mathlib.Core.Path.{◌≡◌, refl, sym, ap, ap₂, subst, ◌∙◌}
use mathlib.Core.List.{List, [], Memᴰ}
use mathlib.Core.Bool.{false, true≢false}
use mathlib.Core.Option.{Option, none, some}
use mathlib.Core.Logic.{◌⊎◌, inl, inr, ◌↔◌}
use Prim.Native.Nat.{ℕ, zero, suc, ◌≤◌, ◌<◌}
use native.Mathlib.Omega.{arith}
use native.Mathlib.Decide.{dec_lt}
use lib.ListN.{length}
use Rattle.scope.specs.Limits.{NONE}
use Rattle.scope.specs.Chart.{Env}
use Rattle.scope.specs.Types.{Ty, flip}
use Rattle.scope.specs.Nodes.{State, Known, Unknown, InferenceFailed, Node, Root, Child, Store, at, state_of, climb, find, kids_of}
use Rattle.scope.specs.Trees.{Tree, node, Forest, fcons, tree_head, Val, invert_if, val, vals, build, StateFits, NodeFits, Fits}
use Rattle.scope.specs.Import.{Work, MovedAll, keep, entry, replaced, import}
use Rattle.scope.specs.Calls.{import_list}
use Rattle.scope.proofs.Laws.{climb_root, climb_child}
use Rattle.scope.proofs.TreeLaws.{val_flip}
use Rattle.scope.proofs.Added.{Closed, at_end, fits_added, fits_inside}
use Rattle.scope.proofs.Mapping.{Source, Maps, tally_uniq}
use Rattle.scope.proofs.Copy.{copy_state, Became, as_copy, as_entry, lost, BecameAll, bnil, bcons, Filled, Ok, import_ok}
use Rattle.scope.proofs.Copies.{entry_low, copy_filled, copy_new_lem, new_copy}

-- trees fit the source where no entry replaces a Param
abbrev pub FitsKept : Env → Val → List Node → Option (List Ty) → Type 0
FitsKept e v ns ps = (n : ℕ) → replaced ps (state_of (at ns n)) ≡ keep → NodeFits e v n (at ns n)

unknown_kept : (ps : Option (List Ty)) (p : ℕ) → replaced ps (Unknown p) ≡ keep
unfolding replaced
unknown_kept none p = refl
unknown_kept (some es) p = refl

-- they give a type the tree of what it leads to
climb_val : (e : Env) (v : Val) (ns : List Node) (ps : Option (List Ty)) → FitsKept e v ns ps → (f : ℕ) (t : Ty) → val e v t ≡ val e v (climb f ns t)
unfolding climb
climb_val e v ns ps h zero t = refl
climb_val e v ns ps h (suc f) t = go (at ns t.idx) refl (λ u. climb_val e v ns ps h f u)
  where
    go : (n : Node) → at ns t.idx ≡ n → ((u : Ty) → val e v u ≡ val e v (climb f ns u)) → val e v t ≡ val e v (climb (suc f) ns t)
    go (Root st z) q ih = rw (climb_root (suc f) ns t q)
    go (Child u) q ih =
        let g : v t.idx ≡ val e v u = subst (NodeFits e v t.idx) q (h t.idx (ap (λ (n : Node). replaced ps (state_of n)) q ∙ unknown_kept ps NONE)) in
        rw (climb_child f ns t u q) (ap (invert_if e t.inv) g ∙ sym (val_flip e v t.inv u) ∙ ih (flip t.inv u))

find_val : (e : Env) (v : Val) (ns : List Node) (ps : Option (List Ty)) → FitsKept e v ns ps → (t : Ty) → val e v t ≡ val e v (find ns t)
unfolding find
find_val e v ns ps h t = climb_val e v ns ps h (length ns) t

node_state : (e : Env) (v : Val) (r : ℕ) (n : Node) → NodeFits e v r n → StateFits e v (state_of n) (v r)
node_state e v r (Root st z) h = h
node_state e v r (Child t) h = tt

-- trees v of the source and u of the destination, alike on copies and on entries
pub record Alike (e : Env) (ns : List Node) (ps : Option (List Ty)) (w : Work) (v u : Val) : Type 0 where
  pub copy : (r n : ℕ) → Maps w.mapping r n → u n ≡ v r
  pub entries : (r : ℕ) (t : Ty) → replaced ps (state_of (at ns r)) ≡ entry t → val e u t ≡ v r
  pub leads : (t : Ty) → val e v t ≡ val e v (find ns t)

module _ {e : Env} {ns : List Node} {ps : Option (List Ty)} {w : Work} {v u : Val} (miss : w.missing ≡ false) (a : Alike e ns ps w v u) where
  became_val : {c c' : Ty} → Became ns ps w c c' → val e u c' ≡ val e v c
  became_val {c} (as_copy n m q) = ap (val e u) q ∙ ap (invert_if e (find ns c).inv) (a.copy (find ns c).idx n m) ∙ sym (a.leads c)
  became_val {c} (as_entry t k q) = ap (val e u) q ∙ val_flip e u (find ns c).inv t
      ∙ ap (invert_if e (find ns c).inv) (a.entries (find ns c).idx t k) ∙ sym (a.leads c)
  became_val (lost h) = absurd (true≢false (sym h ∙ miss))

  -- types that were moved have the trees that they had
  pub became_vals : {cs cs' : List Ty} → BecameAll ns ps w cs cs' → vals e u cs' ≡ vals e v cs
  became_vals bnil = refl
  became_vals (bcons b bs) = ap₂ fcons (became_val b) (became_vals bs)

  -- a root's tree fits its state exactly if it fits the copy's
  pub copy_fits : (r n : ℕ) → Maps w.mapping r n → Filled ns ps w r n → NodeFits e u n (at w.dest.nodes n) ↔ StateFits e v (state_of (at ns r)) (v r)
  unfolding build
  copy_fits r n m f = (
    (λ h. to (state_of (at ns r)) (became_vals f.became) (subst (NodeFits e u n) f.node h)),
    (λ h. subst (NodeFits e u n) (sym f.node) (back (state_of (at ns r)) (became_vals f.became) h)),
  )
    where
      to : (st : State) → vals e u f.kids ≡ vals e v (kids_of st) → StateFits e u (copy_state st f.kids) (u n) → StateFits e v st (v r)
      to (Known i k) q h = sym (a.copy r n m) ∙ h ∙ ap (λ (ts : Forest). invert_if e i (node (tree_head e.texts k.head) false ts)) q
      to (Unknown p) q h = tt
      to InferenceFailed q h = tt

      back : (st : State) → vals e u f.kids ≡ vals e v (kids_of st) → StateFits e v st (v r) → StateFits e u (copy_state st f.kids) (u n)
      back (Known i k) q h = a.copy r n m ∙ h ∙ ap (λ (ts : Forest). invert_if e i (node (tree_head e.texts k.head) false ts)) (sym q)
      back (Unknown p) q h = tt
      back InferenceFailed q h = tt

-- trees of the new store that go on with u, trees of the destination, as v, trees of the source
pub record Copied (e : Env) (v u : Val) (s : Store) (ts : List Ty) (m : MovedAll) : Type 0 where
  pub trees : Val
  pub old : (n : ℕ) → n < length s.nodes → trees n ≡ u n
  pub each : (n : ℕ) → (trees n ≡ u n) ⊎ ((r : ℕ) × (trees n ≡ v r))
  pub fits : Fits e trees m.work.dest.nodes
  pub types : vals e trees m.types ≡ vals e v ts

module _ (e : Env) (v u : Val) (ns : List Node) (ps : Option (List Ty)) (s : Store) (w : Work) (ok : Ok ns ps s [] w) (miss : w.missing ≡ false)
    (low : (t : Ty) → Memᴰ t (import_list ps) → t.idx < length s.nodes) (closed : Closed s.nodes)
    (fv : FitsKept e v ns ps) (fu : Fits e u s.nodes)
    (entries : (r : ℕ) (t : Ty) → replaced ps (state_of (at ns r)) ≡ entry t → val e u t ≡ v r) where
  tree_at : (n : ℕ) → Dec (n < length s.nodes) → Dec (n < length w.dest.nodes) → Tree
  tree_at n (yes p) d = u n
  tree_at n (no p) (yes q) = v (new_copy ns ps s w ok n (omega arith) q).0
  tree_at n (no p) (no q) = u n

  grown : Val
  grown n = tree_at n (dec_lt n (length s.nodes)) (dec_lt n (length w.dest.nodes))

  grown_old : (n : ℕ) → n < length s.nodes → grown n ≡ u n
  unfolding grown tree_at
  grown_old n h = go (dec_lt n (length s.nodes))
    where
      go : (d : Dec (n < length s.nodes)) → tree_at n d (dec_lt n (length w.dest.nodes)) ≡ u n
      go (yes p) = refl
      go (no p) = absurd (p h)

  grown_each : (n : ℕ) → (grown n ≡ u n) ⊎ ((r : ℕ) × (grown n ≡ v r))
  unfolding grown tree_at
  grown_each n = go (dec_lt n (length s.nodes)) (dec_lt n (length w.dest.nodes))
    where
      go : (d : Dec (n < length s.nodes)) (f : Dec (n < length w.dest.nodes)) → (tree_at n d f ≡ u n) ⊎ ((r : ℕ) × (tree_at n d f ≡ v r))
      go (yes p) f = inl refl
      go (no p) (yes q) = inr ((new_copy ns ps s w ok n (omega arith) q).0, refl)
      go (no p) (no q) = inl refl

  grown_copy : (r n : ℕ) → Maps w.mapping r n → grown n ≡ v r
  unfolding grown tree_at
  grown_copy r n m = go (dec_lt n (length s.nodes)) (dec_lt n (length w.dest.nodes))
    where
      go : (d : Dec (n < length s.nodes)) (f : Dec (n < length w.dest.nodes)) → tree_at n d f ≡ v r
      go (yes p) f = absurd (omega (arith, (copy_new_lem ns ps s w ok r n m).0))
      go (no p) (yes q) = let c = new_copy ns ps s w ok n (omega arith) q in ap v (tally_uniq ok.tally c.0 r n c.1 m)
      go (no p) (no q) = absurd (q (copy_new_lem ns ps s w ok r n m).1)

  grown_alike : Alike e ns ps w v grown
  grown_alike = record {
    copy = grown_copy;
    entries = λ r t q. ap (invert_if e t.inv) (grown_old t.idx (entry_low ns ps s w ok miss low (state_of (at ns r)) t q)) ∙ entries r t q;
    leads = find_val e v ns ps fv;
  }

  grown_fits : Fits e grown w.dest.nodes
  grown_fits = (fits_added e grown s.nodes w.dest.nodes ok.ext).1
      (fits_inside e u grown s.nodes closed grown_old fu, λ n q. new n q (dec_lt n (length w.dest.nodes)))
    where
      new : (n : ℕ) → length s.nodes ≤ n → Dec (n < length w.dest.nodes) → NodeFits e grown n (at w.dest.nodes n)
      new n p (yes q) =
          let c = new_copy ns ps s w ok n p q in
          (copy_fits miss grown_alike c.0 n c.1 (copy_filled ns ps s w ok c.0 n c.1)).1
          (node_state e v c.0 (at ns c.0) (fv c.0 (ok.kept c.0 n c.1)))
      new n p (no q) = subst (NodeFits e grown n) (sym (at_end w.dest.nodes n (omega arith))) tt

  pub copied : (ts : List Ty) (m : MovedAll) → m.work ≡ w → BecameAll ns ps w ts m.types → Copied e v u s ts m
  copied ts m q b = record {
    trees = grown;
    old = grown_old;
    each = grown_each;
    fits = subst (λ (x : Work). Fits e grown x.dest.nodes) (sym q) grown_fits;
    types = became_vals miss grown_alike b;
  }

-- import copies: trees that fit the source, in which a Param that is replaced has its entry's tree, go on with trees that fit the destination
pub import_copies : (e : Env) (v u : Val) (ns : List Node) (ps : Option (List Ty)) (s : Store) (ts : List Ty) → Source ns → Closed s.nodes
    → ((t : Ty) → Memᴰ t ts → t.idx < length ns) → ((t : Ty) → Memᴰ t (import_list ps) → t.idx < length s.nodes)
    → (import ns ps s ts).work.missing ≡ false → FitsKept e v ns ps → Fits e u s.nodes
    → ((r : ℕ) (t : Ty) → replaced ps (state_of (at ns r)) ≡ entry t → val e u t ≡ v r) → Copied e v u s ts (import ns ps s ts)
import_copies e v u ns ps s ts src closed given low miss fv fu entries =
    let p = import_ok ns ps s src ts given in
    copied e v u ns ps s (import ns ps s ts).work p.ok miss low closed fv fu entries ts (import ns ps s ts) refl p.became
