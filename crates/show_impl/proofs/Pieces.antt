-- A trait's name and list, and the fn form, piece after piece.
-- Assumes nothing.
use mathlib.Core.Path.{◌≡◌}
use mathlib.Core.Bool.{Bool, true, false}
use mathlib.Core.List.{List, [], ◌∷◌, ◌++◌, map, append-nil}
use Prim.Native.Nat.{ℕ}
use native.Mathlib.Omega.{arith}
use borrow.Author.Tests.{eqb-true}
use lib.Dec.{eqb}
use lib.ListN.{length}
use Rattle.scope.specs.Base.{pick}
use Rattle.scope.specs.Text.{text}
use Rattle.scope.specs.Names.{bytes}
use Rattle.scope.specs.Chart.{Env, record_at}
use Rattle.scope.specs.Types.{Ty, ty_of}
use Rattle.scope.specs.Show.{fixed, sub, render, commas, trait_pieces, fn_pieces}
use Rattle.append.specs.declared.Out.{Out}
use Rattle.append.specs.Appended.{Puts}
use Rattle.append.proofs.Laws.{puts_then}
use Rattle.show.proofs.Runs.{render_append}

module _ (g : Ty → List ℕ) where
  -- a trait's name alone, and with its list
  pub trait_bare : (e : Env) (i : ℕ) (xs : List ℕ) → eqb (length xs) 0 ≡ true → render g (trait_pieces e i (map ty_of xs)) ≡ bytes e.texts (record_at e i).name
  unfolding render
  trait_bare e i [] h = append-nil (bytes e.texts (record_at e i).name)
  trait_bare e i (x ∷ xs) h = absurd (omega (arith, eqb-true))

  pub trait_listed : (e : Env) (i : ℕ) (xs : List ℕ) → eqb (length xs) 0 ≡ false
      → render g (trait_pieces e i (map ty_of xs)) ≡ bytes e.texts (record_at e i).name ++ (text "[" ++ (render g (commas false (map ty_of xs)) ++ text "]"))
  unfolding render
  trait_listed e i [] h = cc
  trait_listed e i (x ∷ xs) h = rw (render_append g (commas false (map ty_of (x ∷ xs))) (fixed (text "]") ∷ []))

  -- the fn form, with a return unless it is nil: after what it says of receiver and parameters
  module _ (nil : Ty → Bool) (receiver : Ty) (i : Bool) (ps : List Ty) (ret : Ty) where
    fn_by : (b : Bool) → nil ret ≡ b
        → render g (fn_pieces nil receiver i ps ret) ≡ text "fn " ++ (g receiver ++ (text "(" ++ (render g (commas i ps) ++ (text ")" ++ pick b [] (text " -> " ++ g ret)))))
    unfolding render
    fn_by true h = rw (h, render_append g (commas i ps) (fixed (text ")") ∷ []))
    fn_by false h = rw (h, render_append g (commas i ps) (fixed (text ")") ∷ fixed (text " -> ") ∷ sub ret ∷ []), append-nil (g ret))

    pub fn_put : (b : Bool) → nil ret ≡ b → {o₀ o₁ o₂ o₃ o₄ o₅ : Out}
        → Puts o₀ o₁ (text "fn ") → Puts o₁ o₂ (g receiver) → Puts o₂ o₃ (text "(") → Puts o₃ o₄ (render g (commas i ps))
        → Puts o₄ o₅ (text ")" ++ pick b [] (text " -> " ++ g ret)) → Puts o₀ o₅ (render g (fn_pieces nil receiver i ps ret))
    fn_put b h said of opened listed rest = rw (fn_by b h) (puts_then said (puts_then of (puts_then opened (puts_then listed rest))))
