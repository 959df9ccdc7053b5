-- What the code's answers mean among scope's, and their numbers.
use Rattle.std.specs.Prelude.{Bool, true, false, ℕ}
use Rattle.scope.specs.Answers.{Answer}
use Rattle.types.specs.declared.UnifyResult.{UnifyResult}
use Rattle.types.specs.declared.UnifyResult.TheVariants.{Success, Failure, Indeterminate}

abbrev pub answer_of : UnifyResult → Answer
answer_of Success = Answer.Success
answer_of Failure = Answer.Failure
answer_of Indeterminate = Answer.Indeterminate

-- 0 Success, 1 Failure, 2 Indeterminate: the order of the Rust's enum
abbrev pub number_of : UnifyResult → ℕ
number_of Success = 0
number_of Failure = 1
number_of Indeterminate = 2

-- the one answer that merges
abbrev pub is_success : Answer → Bool
is_success Answer.Success = true
is_success Answer.Failure = false
is_success Answer.Indeterminate = false
