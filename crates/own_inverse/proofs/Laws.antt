-- One law for each way out of `by_memory` and `ask`. A marked node's root is good and so is all below it, which is what a walk beside marks asks; and of what such a walk
-- found good every root is its own inverse.
-- Assumes nothing.
use mathlib.Core.Path.{◌≡◌, refl, ap, ap₂, sym, subst, ◌∙◌}
use mathlib.Core.Bool.{Bool, true, false}
use mathlib.Core.List.{List}
use mathlib.Core.Logic.{◌⊎◌, inl, inr}
use Prim.Native.Nat.{ℕ}
use Rattle.std.specs.Prelude.{Option, Some}
use native.Mathlib.Omega.{arith}
use lib.ListN.{length, get_or, replicate}
use Rattle.scope.specs.Limits.{MAX_NODES}
use Rattle.scope.specs.Types.{ty, ty_of}
use Rattle.scope.specs.Nodes.{Node}
use Rattle.scope.specs.Unify.{self_inverse_at, self_inverse_of}
use Rattle.scope.proofs.View.{view}
use Rattle.scope.proofs.Grow.{Self}
use Rattle.scope.proofs.Occurs.{self_sound}
use Rattle.scope.proofs.Sim.{self_inverse_view}
use Rattle.scope.proofs.MarkLaws.{root_find, Told, none_marked, self_below, below_self}
use Rattle.layout.specs.Words.{decode}
use Rattle.layout.proofs.Laws.{length_decode}
use Rattle.marks.specs.Marks.{OLD, Knows, Beside, Marked, Tells, MarkedNew}
use Rattle.heed.specs.Recalls.{SelfAt}
use Rattle.heed.proofs.Laws.{marks_more}
use Rattle.inverse.specs.Judged.{Glanced}
use Rattle.inverse.specs.Marked.{MarkedAll}
use Rattle.inverse.specs.Marked as inverse
use Rattle.own_inverse.specs.Own.{OwnAsks, OwnTold}

module _ {ws ks m : List ℕ} {n a : ℕ} (o : OwnAsks ws ks m n a) where
  abbrev ns : List Node
  ns = decode ws ks n

  -- a root's type is where it leads
  at_root : self_inverse_of (decode ws ks n) (ty_of a) false ≡ self_inverse_at false n (decode ws ks n) (ty_of a).idx
  unfolding self_inverse_of
  at_root = ap₂ (λ (k i : ℕ). self_inverse_at false k ns i) (length_decode ws ks n) (root_find ns (ty_of a) o.root)

  top : ((view (decode ws ks n)).rep (ty_of a).idx).idx ≡ (ty_of a).idx
  unfolding view
  top = root_find ns (ty false (ty_of a).idx) o.root

  still : Beside m m
  still = record { before = λ j h. refl; after = λ j h. refl }

  own_not : {r : Bool} → r ≡ false → r ≡ self_inverse_of (decode ws ks n) (ty_of a) false → OwnTold ws ks m m n a false
  own_not e q = record { same = sym e ∙ (q ∙ at_root); beside = still; marks = o.marks }

  -- `ask`

  module _ {g : Option Bool} {own : Bool} (k : Glanced (decode ws ks n) false a g) (s : g ≡ Some own) where
    pub ask_not : own ≡ false → OwnTold ws ks m m n a own
    ask_not e = rw e (own_not refl (sym (k.told false (s ∙ ap Some e))))

    pub ask_marks : {i : ℕ} {m' : List ℕ} → own ≡ true → i ≡ (ty_of a).idx → Marked m m' i → OwnTold ws ks m m' n a own
    ask_marks {i} {m'} e ei w = record { same = sym (k.told own s) ∙ at_root; beside = w.beside; marks = marks_more o.marks self w }
      where
        here : Self (view ns) (ty_of a).idx
        here = self_sound n (view ns) (ty_of a).idx (sym (self_inverse_view false n ns (ty_of a).idx) ∙ (sym at_root ∙ (k.told own s ∙ e)))

        self : SelfAt ns i
        self = subst (SelfAt ns) (sym ei) (subst (Self (view ns)) (sym top) here)

  -- `by_memory`

  pub memory_asks : {f : List ℕ} → length f ≡ MAX_NODES → Tells m (replicate MAX_NODES 0) f → inverse.Beside ws ks n f a false
  memory_asks {f} l t = record { stands = o.stands; walkable = o.walkable; told = told; inside = o.inside }
    where
      Each : ℕ → Type 0
      Each i = (get_or f i 0 ≡ get_or (replicate MAX_NODES 0) i 0) ⊎ ((get_or f i 0 ≡ OLD) × Knows m i)

      old : (i : ℕ) → Each i → get_or f i 0 ≡ 1 → ⊥
      old i (inl e) q = omega (arith, e ∙ none_marked MAX_NODES i, q)
      old i (inr k) q = omega (arith, k.0, q)

      marked : (i : ℕ) → Each i → (get_or f i 0 ≡ 0 → ⊥) → Knows m i
      marked i (inl e) q = absurd (q (e ∙ none_marked MAX_NODES i))
      marked i (inr k) q = k.1

      told : Told false ns f
      told = record {
        room = omega (arith, l, length_decode ws ks n, o.few);
        old = λ i. old i (t.each i);
        good = λ i q j r. self_below ns (o.marks.self i (marked i (t.each i) q)) r;
      }

  module _ {f : List ℕ} {r : Bool} (k : MarkedAll ws ks n f a false r) where
    pub memory_not : r ≡ false → OwnTold ws ks m m n a false
    memory_not e = own_not e k.same

    pub memory_all : {m' : List ℕ} → r ≡ true → MarkedNew m m' f → OwnTold ws ks m m' n a true
    memory_all {m'} e w = record {
      same = sym e ∙ (k.same ∙ at_root);
      beside = w.beside;
      marks = record {
        self = λ j v. elim (w.marks j v) [ inl q ↦ below_self o.walkable j (k.good e j (λ z. omega (arith, q, z))) | inr q ↦ o.marks.self j q ];
      };
    }
