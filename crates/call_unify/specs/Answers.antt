-- What the calls reply: unify's answer, or a refusal's number.
use Rattle.std.specs.Prelude.{Result}
use Rattle.scope.specs.Answers.{Answer}
use Rattle.types.specs.Answers.{answer_of}
use Rattle.types.specs.declared.UnifyResult.{UnifyResult}
use Rattle.promise.specs.Promise.{Reply, reply}
use Rattle.refusals.specs.declared.Refusal.{Refusal}

abbrev pub unify_reply : Result UnifyResult Refusal → Reply Answer
unify_reply r = reply answer_of r
