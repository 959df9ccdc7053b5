-- The laws of one node. What scope's definitions take from a node's state they take from its kind alone, which is what the
-- code reads.
-- Assumes nothing.
use mathlib.Core.Path.{◌≡◌, refl, ap, sym, ◌∙◌}
use mathlib.Core.Bool.{false, ◌&&◌}
use mathlib.Core.List.{List, [], ◌∷◌}
use Prim.Native.Nat.{ℕ, ◌+◌, ◌≤◌, ◌<◌}
use native.Mathlib.Omega.{arith}
use native.Mathlib.Numerals.{add-one}
use lib.Dec.{eqb}
use lib.ListN.{length, get_or, drop, drop_of_length-le}
use lib.Seq.{drop-cons}
use Rattle.scope.specs.Chart.{Env}
use Rattle.scope.specs.Types.{Ty, ty_of}
use Rattle.scope.specs.Kinds.{TUPLE}
use Rattle.scope.specs.Nodes.{at, state_of}
use Rattle.scope.specs.Nodes as nodes
use Rattle.scope.specs.Force.{nil_state, none_mod, mod_of_state}
use Rattle.scope.specs.Force as force
use Rattle.types.specs.declared.Inverted.{Inverted}
use Rattle.layout.specs.Words.{slot_at, decode}
use Rattle.layout.specs.Meaning.{slot_means, kind_means, read_at, held_in, Clean}
use Rattle.layout.specs.declared.Kind.{Kind}
use Rattle.layout.specs.declared.Slot.{Slot}
use Rattle.layout.specs.Meaning.{Held}
use Rattle.std.specs.Prelude.{Some, None}
use Rattle.layout.proofs.ChildLaws.{length_kids, kid_at}
use Rattle.layout.proofs.HeldLaws.{held_by_lem}
use Rattle.roots.specs.Nil.{nil_by}

-- one node

abbrev pub mod_in : Env → (Ty → force.Mod) → List ℕ → Held → force.Mod
mod_in e g ks (Some (i, k)) = mod_of_state e g (nodes.Known false (kind_means ks k))
mod_in e g ks None = none_mod

nil_kind : (ks : List ℕ) (i : Inverted) (k : Kind) → nil_state (nodes.Known i.0 (kind_means ks k)) ≡ nil_by (Some (i, k))
unfolding kind_means
nil_kind ks i k = ap (λ (m : ℕ). eqb k.code TUPLE && eqb m 0) (length_kids ks k)

-- what the code reads at i, where the words are clean
module _ (i : ℕ) {ws ks : List ℕ} {c n : ℕ} (cl : Clean ws ks c n) {r q : Held} (e : r ≡ held_in (read_at ws n i)) (s : r ≡ q) where
  pub nil_read : nil_state (state_of (at (decode ws ks n) i)) ≡ nil_by q
  nil_read = held_by_lem ws ks c n cl i e s nil_state nil_by (nil_kind ks) (λ p. refl) refl

  pub mod_read : (x : Env) (g : Ty → force.Mod) → mod_of_state x g (state_of (at (decode ws ks n) i)) ≡ mod_in x g ks q
  mod_read x g = held_by_lem ws ks c n cl i e s (mod_of_state x g) (mod_in x g ks) (λ j k. refl) (λ p. refl) refl

-- child j of a kind, and those after it
pub kid_next : (ks : List ℕ) (k : Kind) (j : ℕ) (s : Slot) → j < k.count → slot_means s ≡ slot_at ks (k.first + j)
    → drop j (kind_means ks k).kids ≡ ty_of s.ty.0 ∷ drop (j + 1) (kind_means ks k).kids
kid_next ks k j s h e =
    let ts : List Ty = (kind_means ks k).kids in
    let l : j < length ts = omega (arith, length_kids ks k) in
    let x : get_or ts j (ty_of (slot_at ks 0).type) ≡ ty_of s.ty.0 = kid_at ks k j (slot_at ks 0) h ∙ ap (λ w. ty_of w.type) (sym e) in
    drop-cons ts j (ty_of (slot_at ks 0).type) l ∙ rw (x, add-one j) refl

pub kid_none : (ks : List ℕ) (k : Kind) (j : ℕ) → k.count ≤ j → drop j (kind_means ks k).kids ≡ []
kid_none ks k j h = drop_of_length-le (kind_means ks k).kids {i = j} (omega (arith, length_kids ks k))
