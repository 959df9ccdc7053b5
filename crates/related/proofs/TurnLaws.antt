-- The laws of the walk's loop: a walk from a type is a mark and the walk on from its root, and what is left of a run of children gives what the whole run
-- gives; slots of marked roots are passed over.
-- Assumes nothing.
use mathlib.Core.Path.{◌≡◌, refl, ap, sym, ◌∙◌}
use mathlib.Core.Bool.{Bool, true, false, not}
use mathlib.Core.List.{List, [], ◌∷◌, map}
use Prim.Native.Nat.{ℕ, zero, suc, ◌+◌, ◌-◌, ◌≤◌, ◌<◌}
use native.Mathlib.Omega.{arith}
use native.Mathlib.Numerals.{add-one}
use native.Mathlib.Decide.{dec_lt}
use lib.Dec.{eqb}
use lib.ListN.{length, get_or, set, length-set}
use borrow.Author.Tests.{eqb-true, not-false}
use Rattle.scope.specs.Types.{Ty, ty_of}
use Rattle.scope.specs.Nodes.{Node, at, state_of, find, kids_of}
use Rattle.scope.specs.Force.{related_kids, related_f}
use Rattle.types.specs.declared.Inverted.{Inverted}
use Rattle.layout.specs.Words.{slot_at, slots, decode}
use Rattle.layout.specs.Meaning.{slot_means, kind_means, read_at, held_in}
use Rattle.layout.specs.declared.Kind.{Kind}
use Rattle.layout.specs.declared.Slot.{Slot}
use Rattle.layout.specs.Meaning.{Held}
use Rattle.std.specs.Prelude.{Some, None}
use Rattle.layout.proofs.HeldLaws.{held_kids_lem}
use Rattle.types.specs.declared.TypeIdx.{TypeIdx}
use Rattle.related.specs.Tables.{Meeting}
use Rattle.skips.specs.Table.{Scanned}
use Rattle.related.specs.Tables.{related_below, slot_marked, Meets, Keeps}
use Rattle.related.specs.Stands.{Stands}
use Rattle.related.proofs.Laws.{mark_met, mark_new}
use Rattle.related.proofs.KeepLaws.{keeps_seen}

-- the children in the slots from s on, up to e

abbrev kids_at : List ℕ → ℕ → ℕ → List Ty
kids_at ks s m = map (λ x. ty_of x.type) (slots ks s m)

abbrev pub kids_in : List ℕ → ℕ → ℕ → List Ty
kids_in ks s e = kids_at ks s (e - s)

kids_step : (ks : List ℕ) (s e : ℕ) → s < e → kids_in ks s e ≡ ty_of (slot_at ks s).type ∷ kids_in ks (s + 1) e
kids_step ks s e h =
    let a : e - s ≡ suc (e - (s + 1)) = omega arith in
    ap (kids_at ks s) a ∙ ap (λ (u : ℕ). ty_of (slot_at ks s).type ∷ kids_at ks u (e - (s + 1))) (sym (add-one s))

kids_none : (ks : List ℕ) (s e : ℕ) → e ≤ s → kids_in ks s e ≡ []
kids_none ks s e h = let a : e - s ≡ 0 = omega arith in ap (kids_at ks s) a

kids_whole : (ks : List ℕ) (k : Kind) → (kind_means ks k).kids ≡ kids_in ks k.first (k.first + k.count)
unfolding kind_means
kids_whole ks k = let a : k.count ≡ k.first + k.count - k.first = omega arith in ap (kids_at ks k.first) a

-- the walk on from a root: no depth, no kind, a kind

kids_shallow : (ns : List Node) (ms : List ℕ) (ts : List Ty) → related_kids (related_f 0 ns) ms ts ≡ ms
unfolding related_f
kids_shallow ns ms [] = refl
kids_shallow ns ms (t ∷ ts) = kids_shallow ns ms ts

pub below_shallow : (depth : ℕ) (ns : List Node) (ms : List ℕ) (i : ℕ) → depth ≡ 0 → ms ≡ related_below depth ns ms i
below_shallow depth ns ms i e = rw e (sym (kids_shallow ns ms (kids_of (state_of (at ns i)))))

module _ {ws ks : List ℕ} {n : ℕ} (i : ℕ) {v : Held} (s : Stands ws ks n) (o : v ≡ held_in (read_at ws n i)) (depth : ℕ) (ms : List ℕ) where
  pub below_none : v ≡ None → ms ≡ related_below depth (decode ws ks n) ms i
  below_none e = sym (ap (related_kids (related_f depth (decode ws ks n)) ms) (held_kids_lem ws ks s.made n s.clean i o e))

  pub below_kind : {j : Inverted} {k : Kind} → v ≡ Some (j, k)
      → related_kids (related_f depth (decode ws ks n)) ms (kids_in ks k.first (k.first + k.count)) ≡ related_below depth (decode ws ks n) ms i
  below_kind {k = k} e =
      sym (ap (related_kids (related_f depth (decode ws ks n)) ms) (held_kids_lem ws ks s.made n s.clean i o e ∙ kids_whole ks k))

-- a type whose root was not marked
pub mark_walked : {i : ℕ} {b : Bool} {ms' ms'' : List ℕ} (depth : ℕ) (ns : List Node) (ms : List ℕ) (t : Ty) → (depth ≡ 0 → ⊥) → i ≡ (find ns t).idx
    → b ≡ not (eqb (get_or ms i 0) 0) → b ≡ false → ms' ≡ set ms i 1 → ms'' ≡ related_below (depth - 1) ns ms' i → ms'' ≡ related_f depth ns ms t
mark_walked {i} depth ns ms t h r m e w q =
    let z : get_or ms i 0 ≡ 0 = eqb-true (get_or ms i 0) 0 (not-false (eqb (get_or ms i 0) 0) (sym m ∙ e)) in
    q ∙ rw w (sym (mark_new depth ns ms t h r z))

-- children from s on give what those from s₀ on give
pub record Turn (g : List ℕ → Ty → List ℕ) (ks : List ℕ) (s₀ e : ℕ) (ms₀ ms : List ℕ) (s : ℕ) : Type 0 where
  pub left : related_kids g ms (kids_in ks s e) ≡ related_kids g ms₀ (kids_in ks s₀ e)
  pub long : length ms ≡ length ms₀

module _ {g : List ℕ → Ty → List ℕ} {ks : List ℕ} {s₀ e : ℕ} {ms₀ ms : List ℕ} {s : ℕ} (c : Turn g ks s₀ e ms₀ ms s) where
  turn_on : {ms' : List ℕ} → s < e → ms' ≡ g ms (ty_of (slot_at ks s).type) → length ms' ≡ length ms → Turn g ks s₀ e ms₀ ms' (s + 1)
  turn_on h w l = record {
    left =
        ap (λ (m : List ℕ). related_kids g m (kids_in ks (s + 1) e)) w ∙ (sym (ap (related_kids g ms) (kids_step ks s e h)) ∙ c.left);
    long = l ∙ c.long;
  }

  pub turn_next : {ms' : List ℕ} (d : Slot) → s < e → slot_means d ≡ slot_at ks s → ms' ≡ g ms (ty_of d.ty.0) → length ms' ≡ length ms
      → Turn g ks s₀ e ms₀ ms' (s + 1)
  turn_next d h q w l = turn_on h (w ∙ ap (λ x. g ms (ty_of x.type)) q) l

  turn_past : e ≤ s → Turn g ks s₀ e ms₀ ms (s + 1)
  turn_past h = record {
    left = ap (related_kids g ms) (kids_none ks (s + 1) e (omega arith) ∙ sym (kids_none ks s e h)) ∙ c.left;
    long = c.long;
  }

  pub turn_end : e ≤ s → ms ≡ related_kids g ms₀ (kids_in ks s₀ e)
  turn_end h = sym (ap (related_kids g ms) (kids_none ks s e h)) ∙ c.left

module _ (d : ℕ) (ns : List Node) {ks : List ℕ} {s₀ e : ℕ} {ms₀ ms : List ℕ} where
  pass_one : {s : ℕ} → Turn (related_f d ns) ks s₀ e ms₀ ms s → slot_marked ns ks ms s ≡ true → Turn (related_f d ns) ks s₀ e ms₀ ms (s + 1)
  pass_one {s} c h = go (dec_lt s e)
    where
      go : Dec (s < e) → Turn (related_f d ns) ks s₀ e ms₀ ms (s + 1)
      go (yes l) = turn_on c l (mark_met d ns ms (ty_of (slot_at ks s).type) refl refl h) refl
      go (no l) = turn_past c (omega arith)

  pub turn_pass : {s : ℕ} (r : ℕ) → Turn (related_f d ns) ks s₀ e ms₀ ms s → ((x : ℕ) → s ≤ x → x < s + r → slot_marked ns ks ms x ≡ true)
      → Turn (related_f d ns) ks s₀ e ms₀ ms (s + r)
  turn_pass {s = s} zero c h = let z : s + zero ≡ s = omega arith in rw z c
  turn_pass {s = s} (suc r) c h =
      let z : s + suc r ≡ s + 1 + r = omega arith in
      rw z (turn_pass {s = s + 1} r (pass_one c (h s (omega arith) (omega arith))) (λ x l u. h x (omega arith) (omega arith)))

-- where a walk is in a run of children: what is left gives what the whole run gives, and what it keeps stands
pub record Onward (d : ℕ) (ws ks : List ℕ) (n s₀ e : ℕ) (ms₀ ms seen skip : List ℕ) (s : ℕ) : Type 0 where
  pub turn : Turn (related_f d (decode ws ks n)) ks s₀ e ms₀ ms s
  pub keeps : Keeps ws ks n ms seen skip

-- a slot, and those after it whose children's nodes have been told
pub turn_stretch : (d : ℕ) {ws ks : List ℕ} {n s₀ e r : ℕ} {ms₀ ms seen skip : List ℕ} (s : ℕ) → Turn (related_f d (decode ws ks n)) ks s₀ e ms₀ ms (s + 1)
    → Keeps ws ks n ms seen skip → Scanned ks seen (s + 1) e r → Turn (related_f d (decode ws ks n)) ks s₀ e ms₀ ms r
turn_stretch d {ws} {ks} {n} {r = r} s c k w =
    let z : s + 1 + (r - (s + 1)) ≡ r = omega (arith, w.from) in
    rw z at (turn_pass d (decode ws ks n) (r - (s + 1)) c (λ x l u. keeps_seen k x (w.over x l (omega (arith, w.from)))))

-- a child whose root was marked, and one whose root is marked now and walked on from
module _ (f : ℕ) {ws ks : List ℕ} {n s₀ e : ℕ} {ms₀ ms ms' seen : List ℕ} {r : Meeting} {s : ℕ} (c : Turn (related_f f (decode ws ks n)) ks s₀ e ms₀ ms s) (d : Slot)
    (h : s < e) (q : slot_means d ≡ slot_at ks s) (w : Meets ws n d.ty.0 ms ms' seen r) where
  pub turn_met : r ≡ None → Turn (related_f f (decode ws ks n)) ks s₀ e ms₀ ms' (s + 1)
  turn_met z =
      turn_next c d h q (w.same z ∙ mark_met f (decode ws ks n) ms (ty_of d.ty.0) refl refl (w.met z ks)) (ap (λ (m : List ℕ). length m) (w.same z))

  pub turn_new : {i : TypeIdx} {ms'' : List ℕ} → (f ≡ 0 → ⊥) → r ≡ Some i → ms'' ≡ related_below (f - 1) (decode ws ks n) ms' i.0 → length ms'' ≡ length ms'
      → Turn (related_f f (decode ws ks n)) ks s₀ e ms₀ ms'' (s + 1)
  turn_new {i} a z v l =
      turn_next c d h q (mark_walked f (decode ws ks n) ms (ty_of d.ty.0) a (w.root i z ks) refl (w.fresh i z) (w.mark i z) v)
      (l ∙ (ap (λ (m : List ℕ). length m) (w.mark i z) ∙ length-set ms i.0 1))
