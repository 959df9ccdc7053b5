-- The derived order of refusals is that of their numbers, so the lesser of two has the lesser number.
-- Assumes nothing.
use mathlib.Core.Path.{◌≡◌, refl, ap, ◌∙◌}
use mathlib.Core.Bool.{Bool, true, false}
use lib.Dec.{ltb}
use Rattle.std.proofs.Common.{arith}
use Rattle.std.proofs.lemmas.Bool.Decides.{nat_tests}
use Rattle.std.specs.Prelude.{cond}
use Rattle.std.specs.Ordering.{is_lt, ord_min}
use Rattle.scope.specs.Base.{pick}
use Rattle.refusals.specs.declared.Refusal.{Refusal}
use Rattle.refusals.specs.contracts.RefusalOrd.TheImpl as order
use Rattle.refusals.specs.Codes.{number}

less_number : (r q : Refusal) → is_lt ((order.ghosts).cmp r q) ≡ ltb (number r) (number q)
less_number r q = grind (arith, nat_tests)

number_cond : (b : Bool) (r q : Refusal) → number (cond b q r) ≡ pick b (number q) (number r)
number_cond true r q = refl
number_cond false r q = refl

pub min_number : (r q : Refusal) → number (ord_min (order.ghosts).cmp r q) ≡ pick (ltb (number q) (number r)) (number q) (number r)
min_number r q = number_cond (is_lt ((order.ghosts).cmp q r)) r q ∙ ap (λ (b : Bool). pick b (number q) (number r)) (less_number q r)
