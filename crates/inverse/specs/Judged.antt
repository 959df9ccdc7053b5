-- What a root tells of `self_inverse` by itself, and what a walk of some visits tells.
use Rattle.std.specs.declared.ops.Range.{Range}
use Rattle.std.specs.Prelude.{◌≡◌, Bool, true, false, Option, Some, List, map, ℕ, suc, ◌+◌, ◌≤◌, eqb}
use Rattle.scope.specs.Base.{pick, all}
use Rattle.scope.specs.Types.{Ty, ty_of}
use Rattle.scope.specs.Kinds.{PARAM, row_of, dual_by}
use Rattle.scope.specs.Nodes.{Node, find}
use Rattle.scope.specs.Unify.{self_inverse_at, self_inverse_of}
use Rattle.layout.specs.Words.{slots, decode}
use Rattle.layout.specs.Meaning.{Clean}
use Rattle.layout.specs.declared.Kind.{Kind}
use Rattle.inverse.specs.declared.Judgement.{Judgement}
use Rattle.inverse.specs.declared.Judgement.TheVariants.{Bad, Good, Run}

-- so many children from the first on
abbrev pub kids_in : List ℕ → ℕ → ℕ → List Ty
kids_in ks first count = map (λ s. ty_of s.type) (slots ks first count)

-- the places of such a run
abbrev pub whole : ℕ → ℕ → Range ℕ
whole first count = record { start = first; end = first + count }

-- a kind that lets a type be its own inverse, children apart
abbrev pub good_kind : Bool → Kind → Bool
good_kind param k = pick (eqb k.code PARAM) param (dual_by (row_of k.code).dual k.dual)

-- whether the type t is its own inverse, in a walk of depth d
abbrev pub self_below : Bool → List Node → ℕ → Ty → Bool
self_below param ns d t = self_inverse_at param d ns (find ns t).idx

-- what the root i tells of `self_inverse` by itself, whatever the children's words are and however deep a walk goes
pub record Judges (ws : List ℕ) (n : ℕ) (param : Bool) (i : ℕ) (r : Judgement) : Type 0 where
  pub bad : r ≡ Bad → (ks : List ℕ) (c : ℕ) → Clean ws ks c n → (d : ℕ) → self_inverse_at param d (decode ws ks n) i ≡ false
  pub good : r ≡ Good → (ks : List ℕ) (c : ℕ) → Clean ws ks c n → (d : ℕ) → self_inverse_at param (suc d) (decode ws ks n) i ≡ true
  pub run : (a m : ℕ) → r ≡ Run a m → (ks : List ℕ) (c : ℕ) → Clean ws ks c n → (d : ℕ)
      → self_inverse_at param (suc d) (decode ws ks n) i ≡ all (self_below param (decode ws ks n) d) (kids_in ks a m)

-- and what a walk of so many visits at most tells of the types ts
pub record Tries (ns : List Node) (param : Bool) (ts : List Ty) (most : ℕ) (r : Option Bool) : Type 0 where
  pub bad : r ≡ Some false → (d : ℕ) → all (self_below param ns d) ts ≡ false
  pub good : r ≡ Some true → (d : ℕ) → most ≤ d → all (self_below param ns d) ts ≡ true

-- what is told of the type in the word t
pub record Glanced (ns : List Node) (param : Bool) (t : ℕ) (r : Option Bool) : Type 0 where
  pub told : (b : Bool) → r ≡ Some b → self_inverse_of ns (ty_of t) param ≡ b
