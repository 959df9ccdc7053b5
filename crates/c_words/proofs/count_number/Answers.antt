-- `c_words::count_number` meets its contract: a length that is below every refusal's number is no other as a number. Assumes nothing.
use borrow.Author.Rules.{rules}
use Rattle.c_words.proofs.Laws.{number_low}
use Rattle.c_words.proofs.count_number.Goals as goal

pub returns : goal.returns
returns c = number_low _ c.args.a c.map.result c.requires c.map.ensures.cases c.answer_number.ensures (λ n w p l. search (rules, p, l))
