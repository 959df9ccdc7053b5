-- The laws of the walk's tables: a node is told when its root is marked, and more marks leave marked roots marked.
-- Assumes nothing.
use mathlib.Core.Path.{◌≡◌, refl, ap, sym, ◌∙◌}
use mathlib.Core.Bool.{Bool, true, false, not}
use mathlib.Core.List.{List}
use Prim.Native.Nat.{ℕ, ◌+◌, ◌≤◌, ◌<◌}
use native.Mathlib.Omega.{arith}
use native.Mathlib.Decide.{ℕ_discrete, dec_lt}
use lib.Dec.{eqb}
use lib.ListN.{length, get_or, set}
use lib.Seq.{get_or-set_same, get_or-set_other, set_out}
use Rattle.scope.specs.Types.{Ty, ty_of}
use Rattle.scope.specs.Nodes.{Node, find}
use Rattle.scope.proofs.Paths.{find_idx}
use Rattle.scope.proofs.View.{view}
use Rattle.types.specs.declared.TypeIdx.{TypeIdx}
use Rattle.layout.specs.Words.{slot_at, decode}
use Rattle.roots.specs.Found.{Found}
use Rattle.related.specs.Tables.{Meeting}
use Rattle.std.specs.Prelude.{Some, None}
use Rattle.skips.specs.Table.{marked, slot_seen, Passed, Stretched}
use Rattle.related.specs.Tables.{slot_marked, Sees, Meets, Keeps}
use Rattle.roots.proofs.Laws.{root_is}

-- one table of bytes

-- types of one node have one root
same_root : (ns : List Node) (t u : Ty) → t.idx ≡ u.idx → (find ns t).idx ≡ (find ns u).idx
same_root ns t u e = find_idx ns t ∙ (ap (λ (i : ℕ). ((view ns).rep i).idx) e ∙ sym (find_idx ns u))

-- more marks

marked_set : (ms : List ℕ) (i r : ℕ) → not (eqb (get_or ms r 0) 0) ≡ true → not (eqb (get_or (set ms i 1) r 0) 0) ≡ true
marked_set ms i r h = go (ℕ_discrete r i) (dec_lt i (length ms))
  where
    go : Dec (r ≡ i) → Dec (i < length ms) → not (eqb (get_or (set ms i 1) r 0) 0) ≡ true
    go (yes e) (yes l) = rw (e, get_or-set_same ms i 1 0 l) refl
    go (yes e) (no l) = rw (set_out ms i 1 (omega arith)) h
    go (no e) d = rw (get_or-set_other ms i r 1 0 e) h

-- nodes that have been told

module _ {ws : List ℕ} {n : ℕ} {ms seen : List ℕ} (c : Sees ws n ms seen) where
  sees_mark : {ms' : List ℕ} (i : ℕ) → ms' ≡ set ms i 1 → Sees ws n ms' seen
  sees_mark i e = record { each = λ t h ks. rw e (marked_set ms i (find (decode ws ks n) t).idx (c.each t h ks)) }

  -- one more
  sees_told : {seen' : List ℕ} (t : ℕ) {j : ℕ} → ((ks : List ℕ) → marked ms (find (decode ws ks n) (ty_of t)).idx ≡ true) → j ≡ (ty_of t).idx → seen' ≡ set seen j 1
      → Sees ws n ms seen'
  sees_told t {j} h q e = record { each = λ u w ks. go u ks (rw e at w) (ℕ_discrete u.idx j) }
    where
      go : (u : Ty) (ks : List ℕ) → marked (set seen j 1) u.idx ≡ true → Dec (u.idx ≡ j) → marked ms (find (decode ws ks n) u).idx ≡ true
      go u ks w (yes z) = ap (marked ms) (same_root (decode ws ks n) u (ty_of t) (z ∙ q)) ∙ h ks
      go u ks w (no z) = c.each u (rw (get_or-set_other seen j u.idx 1 0 z) at w) ks

-- a child is met

met_not_new : {i : TypeIdx} {B : Type 0} → None ≡ Some i → B
met_not_new e = let z : ◌≡◌ {A = ℕ} 0 1 = cc in absurd (omega arith)

new_not_met : {i : TypeIdx} {B : Type 0} → Some i ≡ None → B
new_not_met e = let z : ◌≡◌ {A = ℕ} 0 1 = cc in absurd (omega arith)

module _ {ws : List ℕ} {n t : ℕ} {ms : List ℕ} where
  meets_met : {seen : List ℕ} → Sees ws n ms seen → ((ks : List ℕ) → marked ms (find (decode ws ks n) (ty_of t)).idx ≡ true) → Meets ws n t ms ms seen None
  meets_met c h = record {
    sees = c;
    same = λ e. refl;
    met = λ e. h;
    root = λ i e. met_not_new e;
    fresh = λ i e. met_not_new e;
    mark = λ i e. met_not_new e;
  }

  module _ {r : ℕ} {i : TypeIdx} {seen : List ℕ} {j : ℕ} (c : Sees ws n ms seen) (f : Found ws n t r) (o : i.0 ≡ (ty_of r).idx) (q : j ≡ (ty_of t).idx) where
    pub meets_old : {seen' : List ℕ} {b : Bool} → b ≡ marked ms i.0 → b ≡ true → seen' ≡ set seen j 1 → Meets ws n t ms ms seen' None
    meets_old m h e =
        let w : (ks : List ℕ) → marked ms (find (decode ws ks n) (ty_of t)).idx ≡ true = λ ks. ap (marked ms) (sym (root_is f o ks)) ∙ (sym m ∙ h) in
        meets_met (sees_told c t w q e) w

    module _ {ms' : List ℕ} {b : Bool} (m : b ≡ marked ms i.0) (h : b ≡ false) (e : ms' ≡ set ms i.0 1) where
      meets_new : {seen' : List ℕ} → Sees ws n ms' seen' → Meets ws n t ms ms' seen' (Some i)
      meets_new d = record {
        sees = d;
        same = λ z. new_not_met z;
        met = λ z. new_not_met z;
        root = λ x z. let y : i ≡ x = cc in rw (← y) (root_is f o);
        fresh = λ x z. let y : i ≡ x = cc in rw (← y) (sym m ∙ h);
        mark = λ x z. let y : i ≡ x = cc in rw (← y) e;
      }

      pub meets_in : {seen' : List ℕ} {d : Bool} → d ≡ marked ms' i.0 → d ≡ true → seen' ≡ set seen j 1 → Meets ws n t ms ms' seen' (Some i)
      meets_in w z v = meets_new (sees_told (sees_mark c i.0 e) t (λ ks. ap (marked ms') (sym (root_is f o ks)) ∙ (sym w ∙ z)) q v)

-- what a walk keeps: slots passed over, a child met, and what follows it

module _ {ws ks : List ℕ} {n : ℕ} {ms seen skip : List ℕ} (c : Keeps ws ks n ms seen skip) where
  pub keeps_over : {skip' : List ℕ} {s r : ℕ} → Passed skip skip' s r → (x : ℕ) → s ≤ x → x < s + r → slot_marked (decode ws ks n) ks ms x ≡ true
  keeps_over w = w.over (slot_marked (decode ws ks n) ks ms) c.skips

  pub keeps_pass : {skip' : List ℕ} {s r : ℕ} → Passed skip skip' s r → Keeps ws ks n ms seen skip'
  keeps_pass w = record { sees = c.sees; skips = w.skips (slot_marked (decode ws ks n) ks ms) c.skips }

  pub keeps_met : {ms' seen' : List ℕ} {t : ℕ} {r : Meeting} → Meets ws n t ms ms' seen' r → r ≡ None → Keeps ws ks n ms' seen' skip
  keeps_met w e = record { sees = w.sees; skips = rw (w.same e) c.skips }

  pub keeps_new : {ms' seen' : List ℕ} {t : ℕ} {r : Meeting} {i : TypeIdx} → Meets ws n t ms ms' seen' r → r ≡ Some i → Keeps ws ks n ms' seen' skip
  keeps_new {i = i} w e = record {
    sees = w.sees;
    skips = record {
      each = λ s x l u. rw (w.mark i e) (marked_set ms i.0 (find (decode ws ks n) (ty_of (slot_at ks x).type)).idx (c.skips.each s x l u));
    };
  }

  -- a slot whose child's node has been told
  pub keeps_seen : (x : ℕ) → slot_seen ks seen x ≡ true → slot_marked (decode ws ks n) ks ms x ≡ true
  keeps_seen x h = c.sees.each (ty_of (slot_at ks x).type) h ks

  pub keeps_stretch : {skip' : List ℕ} {s end r : ℕ} → Stretched ks seen skip skip' s end r → Keeps ws ks n ms seen skip'
  keeps_stretch w = record {
    sees = c.sees;
    skips = w.skips (slot_marked (decode ws ks n) ks ms) c.skips keeps_seen;
  }
