-- A result's number is below three and gives it back; a flag, and a definition's number, say what the core's answer says.
-- Assumes nothing.
use mathlib.Core.Path.{◌≡◌, refl, ap, sym, ◌∙◌}
use mathlib.Core.Bool.{Bool}
use mathlib.Core.List.{List}
use Prim.Native.Nat.{ℕ, ◌<◌}
use native.Mathlib.Omega.{arith}
use Rattle.types.specs.Answers.{number_of}
use Rattle.types.specs.declared.UnifyResult.{UnifyResult}
use Rattle.types.specs.declared.UnifyResult.TheVariants.{Success, Failure, Indeterminate}
use Rattle.walk.specs.declared.Mod.{Mod}
use Rattle.walk.specs.Read.{mod_means}
use Rattle.walk.specs.Asks.{Nil, Modded}
use Rattle.bench.specs.Numbers.{RESULTS, result_in, flag_of, NilNumber, number_of_mod, ModNumber}

pub number_result : (u : UnifyResult) (r : ℕ) → r ≡ number_of u → (r < RESULTS) × (result_in r ≡ u)
number_result Success r q = rw q (omega arith, refl)
number_result Failure r q = rw q (omega arith, refl)
number_result Indeterminate r q = rw q (omega arith, refl)

pub nil_number : {ws : List ℕ} {n t r : ℕ} {b : Bool} → Nil ws n t b → r ≡ flag_of b → NilNumber ws n t r
nil_number w e = record { nil = λ ks c cl. e ∙ ap flag_of (w.nil ks c cl) }

pub mod_number : {ws ks : List ℕ} {n : ℕ} {chart : List ℕ} {t r : ℕ} {m q : Mod} → Modded ws ks n chart t m → m ≡ q → r ≡ number_of_mod (mod_means q)
    → ModNumber ws ks n chart t r
mod_number w e h = record { answer = λ x s. h ∙ (ap (λ (y : Mod). number_of_mod (mod_means y)) (sym e) ∙ ap number_of_mod (w.answer x s)) }
