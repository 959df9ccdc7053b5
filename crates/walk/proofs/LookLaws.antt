-- The laws of what needs no walk. A look at a kind's children: what is left of them, from j on, tells what all of them tell; a child that is the node that
-- is looked for ends it, and one without children tells nothing.
-- Assumes nothing.
use mathlib.Core.Path.{◌≡◌, refl, ap, sym, ◌∙◌}
use mathlib.Core.Bool.{Bool, true, false, ◌||◌}
use mathlib.Core.List.{List, []}
use Prim.Native.Nat.{ℕ, zero, suc, ◌+◌, ◌-◌, ◌≤◌, ◌<◌}
use native.Mathlib.Omega.{arith}
use lib.ListN.{drop}
use lib.Dec.{eqb}
use borrow.Author.Tests.{eqb-true}
use Rattle.scope.specs.Base.{any}
use Rattle.scope.specs.Types.{Ty, ty_of}
use Rattle.scope.specs.Nodes.{Node, at, state_of, find, kids_of}
use Rattle.scope.specs.Unify.{occurs}
use Rattle.types.specs.declared.Inverted.{Inverted}
use Rattle.layout.specs.Words.{slot_at, decode}
use Rattle.layout.specs.Meaning.{slot_means, kind_means, read_at, held_in, held_kids}
use Rattle.layout.specs.declared.Kind.{Kind}
use Rattle.layout.specs.declared.Slot.{Slot}
use Rattle.layout.specs.Meaning.{Held}
use Rattle.std.specs.Prelude.{Option, Some, None}
use Rattle.layout.proofs.HeldLaws.{held_kids_lem}
use Rattle.walk.specs.Read.{leaf_by}
use Rattle.walk.specs.Asks.{Stands, Looked, Occurs}
use Rattle.walk.proofs.Laws.{kid_next, kid_none}
use Rattle.walk.proofs.Answers.{occurs_same, occurs_leaf}

-- what a look answers

module _ {ns : List Node} {n x : ℕ} {ts : List Ty} where
  pub looked : {b : Bool} → any (λ t. occurs (n - 1) ns x (find ns t).idx) ts ≡ b → Looked ns n x ts (Some b)
  looked e = record { told = λ a q. cc }

-- children from j on tell what all of them tell
pub record Left (p : Ty → Bool) (ks : List ℕ) (k : Kind) (j : ℕ) : Type 0 where
  pub whole : any p (drop j (kind_means ks k).kids) ≡ any p (kind_means ks k).kids

module _ {p : Ty → Bool} {ks : List ℕ} {k : Kind} {j : ℕ} (c : Left p ks k j) where
  pub left_end : k.count ≤ j → any p (kind_means ks k).kids ≡ false
  left_end h = sym c.whole ∙ ap (any p) (kid_none ks k j h)

  module _ (s : Slot) (h : j < k.count) (e : slot_means s ≡ slot_at ks (k.first + j)) where
    left_here : (p (ty_of s.ty.0) || any p (drop (j + 1) (kind_means ks k).kids)) ≡ any p (kind_means ks k).kids
    left_here = sym (ap (any p) (kid_next ks k j s h e)) ∙ c.whole

    pub left_yes : p (ty_of s.ty.0) ≡ true → any p (kind_means ks k).kids ≡ true
    left_yes q = sym (sym (ap (λ (b : Bool). b || any p (drop (j + 1) (kind_means ks k).kids)) q) ∙ left_here)

    pub left_no : p (ty_of s.ty.0) ≡ false → Left p ks k (j + 1)
    left_no q = record { whole = sym (ap (λ (b : Bool). b || any p (drop (j + 1) (kind_means ks k).kids)) q) ∙ left_here }

-- one child, whose root is i

kids_leaf : (ks : List ℕ) (v : Held) → leaf_by v ≡ true → held_kids ks v ≡ []
kids_leaf ks (Some (i, k)) h = let z : k.count ≡ 0 = eqb-true k.count 0 h in kid_none ks k 0 (omega arith)
kids_leaf ks None h = refl

module _ (ns : List Node) {n : ℕ} (x : ℕ) {i : ℕ} (t : Ty) (l : 1 < n) (r : i ≡ (find ns t).idx) where
  pub kid_met : true ≡ eqb i x → occurs (n - 1) ns x (find ns t).idx ≡ true
  kid_met e = sym (occurs_same (n - 1) ns x (find ns t).idx (omega arith) (rw (← r) e))

  kid_bare : false ≡ eqb i x → kids_of (state_of (at ns i)) ≡ [] → occurs (n - 1) ns x (find ns t).idx ≡ false
  kid_bare h z = sym (occurs_leaf (n - 1) ns x (find ns t).idx (omega arith) (rw (← r) h) (rw (← r) z))

pub kid_leaf : {ws ks : List ℕ} {n : ℕ} (x : ℕ) {i : ℕ} {b : Bool} (t : Ty) → Stands ws ks n → 1 < n → i ≡ (find (decode ws ks n) t).idx → false ≡ eqb i x
    → b ≡ leaf_by (held_in (read_at ws n i)) → b ≡ true → occurs (n - 1) (decode ws ks n) x (find (decode ws ks n) t).idx ≡ false
kid_leaf {ws} {ks} {n} x {i} t s l r h e q =
    kid_bare (decode ws ks n) x t l r h (held_kids_lem ws ks s.made n s.clean i refl refl ∙ kids_leaf ks (held_in (read_at ws n i)) (sym e ∙ q))

-- `occurs` of a root with a kind

occurs_step : (n : ℕ) (ns : List Node) (x y : ℕ) → 0 < n → false ≡ eqb y x
    → occurs n ns x y ≡ any (λ t. occurs (n - 1) ns x (find ns t).idx) (kids_of (state_of (at ns y)))
unfolding occurs
occurs_step zero ns x y h e = absurd (omega arith)
occurs_step (suc f) ns x y h e = let k : suc f - 1 ≡ f = omega arith in rw (← e, k) refl

module _ {ws ks : List ℕ} {n x y : ℕ} (o : Occurs ws ks n x y) {i : ℕ} (r : i ≡ (ty_of y).idx) (h : false ≡ eqb i x) where
  module _ {v : Held} {j : Inverted} {k : Kind} (e : v ≡ held_in (read_at ws n i)) (s : v ≡ Some (j, k)) where
    occurs_kids : occurs n (decode ws ks n) x (ty_of y).idx ≡ any (λ t. occurs (n - 1) (decode ws ks n) x (find (decode ws ks n) t).idx) (kind_means ks k).kids
    occurs_kids =
        let same : kids_of (state_of (at (decode ws ks n) (ty_of y).idx)) ≡ (kind_means ks k).kids =
        rw (← r) (held_kids_lem ws ks o.walks.stands.made n o.walks.stands.clean i e s) in
        occurs_step n (decode ws ks n) x (ty_of y).idx (omega (arith, o.node)) (rw (← r) h)
        ∙ ap (any (λ t. occurs (n - 1) (decode ws ks n) x (find (decode ws ks n) t).idx)) same

    pub occurs_told : {g : Option Bool} {b : Bool} → Looked (decode ws ks n) n x (kind_means ks k).kids g → g ≡ Some b → b ≡ occurs n (decode ws ks n) x (ty_of y).idx
    occurs_told {g} {b} w q = sym (occurs_kids ∙ w.told b q)
