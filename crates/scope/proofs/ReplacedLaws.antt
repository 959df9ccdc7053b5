-- What a state is replaced by, test by test: no list, no kind, no Param, a Param with an entry, one without. Assumes nothing.
use mathlib.Core.Path.{◌≡◌, refl, ap}
use mathlib.Core.List.{List, [], ◌∷◌}
use mathlib.Core.Bool.{Bool, false, true≢false}
use mathlib.Core.Option.{Option, none, some}
use mathlib.Core.Logic.{◌≢◌}
use Prim.Native.Nat.{ℕ, zero, suc, ◌≤◌, ◌<◌}
use native.Mathlib.Omega.{arith}
use lib.ListN.{length, get_or, get_elem?}
use borrow.Author.Tests.{eq-eqb, ne_eqb}
use Rattle.scope.specs.Types.{Ty, flip}
use Rattle.scope.specs.Kinds.{PARAM}
use Rattle.scope.specs.Nodes.{Kind, State, Known, Unknown, InferenceFailed, is_known}
use Rattle.scope.specs.Import.{keep, missing_entry, entry, entry_at, replaced}

module _ {A : Type 0} where
  pub element_is : (xs : List A) (j : ℕ) (d : A) → j < length xs → get_elem? xs j ≡ some (get_or xs j d)
  element_is [] j d h = absurd (omega arith)
  element_is (x ∷ xs) zero d h = refl
  element_is (x ∷ xs) (suc j) d h = element_is xs j d (omega arith)

  pub element_none : (xs : List A) (j : ℕ) → length xs ≤ j → get_elem? xs j ≡ none
  element_none [] j h = refl
  element_none (x ∷ xs) zero h = absurd (omega arith)
  element_none (x ∷ xs) (suc j) h = element_none xs j (omega arith)

pub replaced_none : (st : State) → replaced none st ≡ keep
unfolding replaced
replaced_none st = refl

pub replaced_plain : (ps : Option (List Ty)) (st : State) → is_known st ≡ false → replaced ps st ≡ keep
unfolding replaced
replaced_plain none st e = refl
replaced_plain (some ps) (Known i k) e = absurd (true≢false e)
replaced_plain (some ps) (Unknown p) e = refl
replaced_plain (some ps) InferenceFailed e = refl

pub replaced_other : (ps : Option (List Ty)) (i : Bool) (k : Kind) → k.head.code ≢ PARAM → replaced ps (Known i k) ≡ keep
unfolding replaced
replaced_other none i k h = refl
replaced_other (some ps) i k h = rw (ne_eqb k.head.code PARAM h)

module _ (ps : List Ty) (i : Bool) (k : Kind) (param : k.head.code ≡ PARAM) where
  pub replaced_entry : (d : Ty) → k.head.number < length ps → replaced (some ps) (Known i k) ≡ entry (flip i (get_or ps k.head.number d))
  unfolding replaced
  replaced_entry d h = rw (eq-eqb k.head.code PARAM param) (ap (entry_at i) (element_is ps k.head.number d h))

  pub replaced_missing : length ps ≤ k.head.number → replaced (some ps) (Known i k) ≡ missing_entry
  unfolding replaced
  replaced_missing h = rw (eq-eqb k.head.code PARAM param) (ap (entry_at i) (element_none ps k.head.number h))
