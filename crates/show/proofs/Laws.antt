-- The laws of what the printers read. Assumes nothing.
use mathlib.Core.Path.{◌≡◌, ap, sym, ◌∙◌}
use mathlib.Core.Logic.{◌⊎◌, inl, inr}
use mathlib.Core.Bool.{Bool, true, false}
use mathlib.Core.List.{List}
use Prim.Native.Nat.{ℕ, ◌+◌, ◌-◌, ◌<◌}
use native.Mathlib.Omega.{arith}
use borrow.Author.Tests.{ne_eqb}
use lib.Dec.{ltb}
use Rattle.scope.specs.Base.{pick}
use Rattle.scope.specs.Types.{Ty, ty_of}
use Rattle.scope.specs.Kinds.{CLOSURE, IF_CONST}
use Rattle.scope.specs.Force.{is_nil}
use Rattle.layout.specs.Words.{slot_at, decode}
use Rattle.layout.specs.Meaning.{slot_means}
use Rattle.layout.specs.declared.Slot.{Slot}
use Rattle.layout.specs.declared.Kind.{Kind}
use Rattle.walk.specs.Asks.{Stands, Nil}
use Rattle.show.specs.Level.{most_of, shown_of}

-- a child that is nil, or is not
pub nil_at : {ws ks : List ℕ} {n : ℕ} {r b : Bool} (s : Slot) (i : ℕ)
    → Nil ws n s.ty.0 r → Stands ws ks n → slot_means s ≡ slot_at ks i → r ≡ b → is_nil (decode ws ks n) (ty_of (slot_at ks i).type) ≡ b
nil_at {ws} {ks} {n} s i a st e h =
    ap (λ w. is_nil (decode ws ks n) (ty_of w.type)) (sym e) ∙ sym (a.nil ks st.made st.clean) ∙ h

-- the last of m children is left out of a Closure and of an if const, if it is nil; f says of each child whether it is
if_const_by : (f : ℕ → Bool) (few v : Bool) (m : ℕ) → m ≡ pick few 0 2 → 0 < m → f (m - 1) ≡ v → pick v (m - 1) m ≡ pick few 0 (pick (f 1) 1 2)
if_const_by f true v m e some w = absurd (omega arith)
if_const_by f false v m e some w = let x : f 1 ≡ v = rw e at w in rw (e, x)

pub last_shown : (nil : Ty → Bool) (ks : List ℕ) (k : Kind) {m : ℕ} → m ≡ most_of k.code k.count → (k.code ≡ CLOSURE) ⊎ (k.code ≡ IF_CONST) → 0 < m
    → {v : Bool} → nil (ty_of (slot_at ks (k.first + (m - 1))).type) ≡ v → pick v (m - 1) m ≡ shown_of nil ks k
unfolding most_of shown_of
last_shown nil ks k {m} e (inl h) some w =
    let d : m ≡ k.count = rw h at e in
    rw (h, ← d, ne_eqb m 0 (λ z. omega arith), w)
last_shown nil ks k {m} e (inr h) some {v} w =
    let d : m ≡ pick (ltb k.count 2) 0 2 = rw h at e in
    rw h (if_const_by (λ i. nil (ty_of (slot_at ks (k.first + i)).type)) (ltb k.count 2) v m d some w)
