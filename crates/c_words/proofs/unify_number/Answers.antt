-- `c_words::unify_number` meets its contract: a result's number is below three, and a refusal's stands over every value's.
-- Assumes nothing.
use native.Mathlib.Omega.{arith}
use Rattle.types.specs.Answers.{answer_of}
use Rattle.c_words.specs.Numbers.{RESULTS, result_in}
use Rattle.c_words.proofs.Laws.{number_result, number_told}
use Rattle.c_words.proofs.unify_number.Goals as goal

pub returns : goal.returns
returns c =
    number_told RESULTS result_in answer_of (omega arith) _ c.args.a c.map.result c.map.ensures.cases c.answer_number.ensures
    (λ u w p l. rw p (number_result u))
