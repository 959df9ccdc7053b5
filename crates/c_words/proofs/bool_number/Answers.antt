-- `c_words::bool_number` meets its contract: yes is 1 and no 0, below every refusal's number. Assumes nothing.
use native.Mathlib.Omega.{arith}
use lib.Dec.{eqb}
use Rattle.c_words.proofs.Laws.{number_bool, number_told}
use Rattle.c_words.proofs.bool_number.Goals as goal

pub returns : goal.returns
returns c =
    number_told 2 (λ w. eqb w 1) (λ b. b) (omega arith) _ c.args.a c.map.result c.map.ensures.cases c.answer_number.ensures (λ b w p l. rw p (number_bool b))
