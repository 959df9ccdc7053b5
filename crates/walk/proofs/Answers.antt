-- The laws of the answers. A walk from no marks tells `occurs`, as scope's laws of marks say; the rest is one step of each
-- definition at what the code reads, and for `get_mod` that looking through the Refs that are left gives what looking through all gives.
-- Assumes nothing.
use mathlib.Core.Path.{◌≡◌, refl, ap, sym, ◌∙◌}
use mathlib.Core.Bool.{Bool, true, false, not}
use mathlib.Core.List.{List, []}
use Prim.Native.Nat.{ℕ, zero, suc, ◌+◌, ◌-◌, ◌≤◌, ◌<◌}
use native.Mathlib.Omega.{arith}
use lib.Dec.{eqb}
use lib.ListN.{length, get_or, replicate}
use borrow.Author.Tests.{eq-eqb, ne_eqb}
use Rattle.scope.specs.Limits.{MAX_NODES}
use Rattle.scope.specs.Chart.{Env}
use Rattle.scope.specs.Types.{Ty, ty_of}
use Rattle.scope.specs.Kinds.{REF}
use Rattle.scope.specs.Nodes.{Node, at, state_of, find, kids_of}
use Rattle.scope.specs.Unify.{occurs}
use Rattle.scope.specs.Force.{find_related, is_nil, none_mod, mod_of_ref, mod_of_state, get_mod_f, get_mod}
use Rattle.scope.specs.Force as force
use Rattle.scope.proofs.SoundLaws.{SoundNodes}
use Rattle.scope.proofs.Walks.{sound_walkable}
use Rattle.scope.proofs.MarkLaws.{Clear, clear_zeros, occurs_marks, told_clear}
use Rattle.types.specs.declared.Inverted.{Inverted}
use Rattle.layout.specs.Words.{slot_at, decode}
use Rattle.layout.specs.Meaning.{slot_means, kind_means, read_at, held_in, held_kids, Clean}
use Rattle.layout.specs.declared.Kind.{Kind}
use Rattle.layout.specs.declared.Slot.{Slot}
use Rattle.layout.specs.Meaning.{Held}
use Rattle.std.specs.Prelude.{Some, None}
use Rattle.layout.proofs.Laws.{length_decode}
use Rattle.layout.proofs.HeldLaws.{held_kids_lem}
use Rattle.chart.specs.Words.{records_of}
use Rattle.roots.specs.Found.{Found}
use Rattle.inverse.specs.Marked.{Beside}
use Rattle.walk.specs.declared.Mod.{Mod}
use Rattle.walk.specs.declared.Mod.TheVariants as mods
use Rattle.roots.specs.Nil.{nil_by}
use Rattle.walk.specs.Read.{mod_means, mod_by}
use Rattle.walk.specs.Asks.{Stands, Walks, Occurs, Inverses, Nil, Modded}
use Rattle.walk.proofs.Laws.{mod_in, nil_read, mod_read, kid_next, kid_none}
use Rattle.roots.proofs.Laws.{root_is}

-- sound nodes can be walked
pub sound_walks : (e : Env) {ws ks : List ℕ} {c n : ℕ} → Clean ws ks c n → n ≤ MAX_NODES → SoundNodes e (decode ws ks n) → Walks ws ks n
sound_walks e {ws} {ks} {c} {n} cl few ok = record {
  stands = record { made = c; clean = cl };
  few = few;
  walkable = sound_walkable e (decode ws ks n) ok;
}

-- a table of marks without a mark
clear : {ws ks : List ℕ} {n : ℕ} → Walks ws ks n → Clear (decode ws ks n) (replicate MAX_NODES 0)
clear {ws} {ks} {n} w = clear_zeros (decode ws ks n) MAX_NODES (omega (arith, length_decode ws ks n, w.few))

-- `occurs`

pub occurs_same : (n : ℕ) (ns : List Node) (x y : ℕ) → 0 < n → true ≡ eqb y x → true ≡ occurs n ns x y
unfolding occurs
occurs_same zero ns x y h e = absurd (omega arith)
occurs_same (suc f) ns x y h e = rw (← e)

pub occurs_leaf : (n : ℕ) (ns : List Node) (x y : ℕ) → 0 < n → false ≡ eqb y x → kids_of (state_of (at ns y)) ≡ [] → false ≡ occurs n ns x y
unfolding occurs
occurs_leaf zero ns x y h e z = absurd (omega arith)
occurs_leaf (suc f) ns x y h e z = rw (← e, z)

module _ {ws ks : List ℕ} {n x y : ℕ} (o : Occurs ws ks n x y) {i : ℕ} (r : i ≡ (ty_of y).idx) where
  pub occurs_is : true ≡ eqb i x → true ≡ occurs n (decode ws ks n) x (ty_of y).idx
  occurs_is e = occurs_same n (decode ws ks n) x (ty_of y).idx (omega (arith, o.node)) (rw (← r) e)

  pub occurs_none : {v q : Held} → false ≡ eqb i x → v ≡ held_in (read_at ws n i) → v ≡ q → held_kids ks q ≡ [] → false ≡ occurs n (decode ws ks n) x (ty_of y).idx
  occurs_none h e s z =
      occurs_leaf n (decode ws ks n) x (ty_of y).idx (omega (arith, o.node)) (rw (← r) h)
      (rw (← r) (held_kids_lem ws ks o.walks.stands.made n o.walks.stands.clean i e s ∙ z))

pub occurs_walk : {ws ks : List ℕ} {n x y : ℕ} {ms : List ℕ} {b : Bool} → Occurs ws ks n x y
    → ms ≡ find_related (decode ws ks n) (ty_of y) (replicate MAX_NODES 0) → b ≡ not (eqb (get_or ms x 0) 0)
    → b ≡ occurs n (decode ws ks n) x (ty_of y).idx
occurs_walk {ws} {ks} {n} {x} {y} o m e =
    let l : length (decode ws ks n) ≡ n = length_decode ws ks n in
    let w = occurs_marks o.walks.walkable (clear o.walks) x (ty_of y) (omega (arith, o.node)) (omega (arith, o.inside)) o.root in
    e ∙ rw m (sym (rw l at w))

-- `self_inverse`

-- a walk from no marks knows nothing at first
pub inverse_asks : {ws ks : List ℕ} {n t : ℕ} → Inverses ws ks n t → (param : Bool) → Beside ws ks n (replicate MAX_NODES 0) t param
inverse_asks {ws} {ks} {n} o param = record {
  stands = o.walks.stands;
  walkable = o.walks.walkable;
  told = told_clear param (decode ws ks n) MAX_NODES (omega (arith, length_decode ws ks n, o.walks.few));
  inside = o.inside;
}

-- `is_nil`

pub nil_is : {ws : List ℕ} {n t r i : ℕ} {v q : Held} {b : Bool} → Found ws n t r → i ≡ (ty_of r).idx → v ≡ held_in (read_at ws n i) → v ≡ q
    → b ≡ nil_by q → Nil ws n t b
unfolding is_nil
nil_is {i = i} f e s o w = record { nil = λ ks c cl. w ∙ (sym (nil_read i cl s o) ∙ rw (root_is f e ks) refl) }

-- `get_mod`

mod_step : (x : Env) (f : ℕ) (ns : List Node) (t : Ty) {i : ℕ} → 0 < f → i ≡ (find ns t).idx
    → get_mod_f x f ns t ≡ mod_of_state x (get_mod_f x (f - 1) ns) (state_of (at ns i))
unfolding get_mod_f
mod_step x zero ns t h e = absurd (omega arith)
mod_step x (suc f) ns t h e = let k : suc f - 1 ≡ f = omega arith in rw (k, e) refl

mod_out : (x : Env) (f : ℕ) (ns : List Node) (t : Ty) → f ≤ 0 → get_mod_f x f ns t ≡ none_mod
unfolding get_mod_f
mod_out x zero ns t h = refl
mod_out x (suc f) ns t h = absurd (omega arith)

mod_other : (x : Env) (g : Ty → force.Mod) (ks : List ℕ) (j : Inverted) (k : Kind) → (k.code ≡ REF → ⊥) → mod_in x g ks (Some (j, k)) ≡ mod_by x.records k.code k.number
unfolding kind_means
mod_other x g ks j k h = rw (ne_eqb k.code REF h, mod_of_state) refl

mod_ref : (x : Env) (g : Ty → force.Mod) (ks : List ℕ) (j : Inverted) (k : Kind) → k.code ≡ REF → mod_in x g ks (Some (j, k)) ≡ mod_of_ref g (kind_means ks k).kids
unfolding kind_means
mod_ref x g ks j k h = rw (eq-eqb k.code REF h, mod_of_state) refl

-- f Refs from u on lead where n Refs from t on do
pub record Looks (ws ks : List ℕ) (n t u f : ℕ) : Type 0 where
  pub rest : (x : Env) → get_mod_f x f (decode ws ks n) (ty_of u) ≡ get_mod_f x n (decode ws ks n) (ty_of t)

module _ {ws ks : List ℕ} {n t u f : ℕ} (c : Looks ws ks n t u f) where
  looks_whole : (x : Env) → get_mod_f x f (decode ws ks n) (ty_of u) ≡ get_mod x (decode ws ks n) (ty_of t)
  unfolding get_mod
  looks_whole x = c.rest x ∙ rw (length_decode ws ks n) refl

  pub looks_out : {chart : List ℕ} → f ≤ 0 → Modded ws ks n chart t mods.Nothing
  looks_out h = record { answer = λ x q. sym (mod_out x f (decode ws ks n) (ty_of u) h) ∙ looks_whole x }

  module _ {i : ℕ} {v : Held} (s : Stands ws ks n) (h : 0 < f) (r : i ≡ (find (decode ws ks n) (ty_of u)).idx) (o : v ≡ held_in (read_at ws n i)) where
    looks_here : (x : Env) {q : Held} → v ≡ q → mod_in x (get_mod_f x (f - 1) (decode ws ks n)) ks q ≡ get_mod_f x f (decode ws ks n) (ty_of u)
    looks_here x e =
        sym (mod_step x f (decode ws ks n) (ty_of u) h r ∙ mod_read i s.clean o e x (get_mod_f x (f - 1) (decode ws ks n)))

    pub looks_none : {chart : List ℕ} → v ≡ None → Modded ws ks n chart t mods.Nothing
    looks_none e = record { answer = λ x q. looks_here x e ∙ looks_whole x }

    module _ {j : Inverted} {k : Kind} (e : v ≡ Some (j, k)) where
      pub looks_kind : {chart : List ℕ} {m : Mod} → (k.code ≡ REF → ⊥) → mod_means m ≡ mod_by (records_of chart) k.code k.number
          → Modded ws ks n chart t m
      looks_kind z w = record {
        answer = λ x q.
            w ∙ (rw (← q) (sym (mod_other x (get_mod_f x (f - 1) (decode ws ks n)) ks j k z)) ∙ (looks_here x e ∙ looks_whole x));
      }

      looks_ref : (x : Env) → k.code ≡ REF → mod_of_ref (get_mod_f x (f - 1) (decode ws ks n)) (kind_means ks k).kids ≡ get_mod_f x f (decode ws ks n) (ty_of u)
      looks_ref x z = sym (mod_ref x (get_mod_f x (f - 1) (decode ws ks n)) ks j k z) ∙ looks_here x e

      pub looks_bare : {chart : List ℕ} → k.code ≡ REF → k.count < 1 → Modded ws ks n chart t mods.Nothing
      looks_bare z l = record {
        answer = λ x q.
            sym (ap (mod_of_ref (get_mod_f x (f - 1) (decode ws ks n))) (kid_none ks k 0 (omega arith))) ∙ (looks_ref x z ∙ looks_whole x);
      }

      pub looks_on : (d : Slot) → k.code ≡ REF → 0 < k.count → slot_means d ≡ slot_at ks (k.first + 0) → Looks ws ks n t d.ty.0 (f - 1)
      looks_on d z l a = record {
        rest = λ x.
            sym (ap (mod_of_ref (get_mod_f x (f - 1) (decode ws ks n))) (kid_next ks k 0 d l a)) ∙ (looks_ref x z ∙ c.rest x);
      }
