-- `c_words::done_number` meets its contract: nothing more to say is 0, and a refusal's number stands over every value's.
-- Assumes nothing.
use mathlib.Core.Path.{◌≡◌}
use native.Mathlib.Omega.{arith}
use borrow.Author.Rules.{rules}
use Rattle.c_words.proofs.Laws.{number_value, number_told}
use Rattle.c_words.proofs.done_number.Goals as goal

pub returns : goal.returns
returns c =
    number_told 1 (λ w. tt) (λ u. tt) (omega arith) _ c.args.a c.map.result c.map.ensures.cases c.answer_number.ensures
    (λ t w p l. let none : w ≡ 0 = search (rules, p) in
    number_value 1 (λ w. tt) w (omega (arith, none)))
