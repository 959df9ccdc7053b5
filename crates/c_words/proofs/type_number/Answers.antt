-- `c_words::type_number` meets its contract: a type's word is below every refusal's number, which stands over every value's. Assumes nothing.
use mathlib.Core.Path.{◌≡◌, ap, ◌∙◌}
use native.Mathlib.Omega.{arith}
use borrow.Author.Rules.{rules}
use Rattle.scope.specs.Types.{ty_of}
use Rattle.promise.specs.Promise.{value}
use Rattle.c_words.specs.Numbers.{REFUSED}
use Rattle.c_words.proofs.Laws.{number_value, number_told}
use Rattle.c_words.proofs.type_number.Goals as goal

pub returns : goal.returns
returns c =
    number_told REFUSED ty_of (λ t. ty_of t.0) (omega arith) _ c.args.a c.map.result c.map.ensures.cases c.answer_number.ensures
    (λ t w p l. let same : w ≡ t.0 = search (rules, p) in
    number_value REFUSED ty_of w l ∙ ap (λ x. value (ty_of x)) same)
