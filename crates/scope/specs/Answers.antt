-- unify's answers: "Failure outranks Indeterminate, which outranks Success".
use Rattle.std.specs.Prelude.{Bool, true, false}

pub data Answer : Type 0 where
  Success Failure Indeterminate : Answer

-- `and`
abbrev pub both : Answer → Answer → Answer
both Success b = b
both Failure b = Failure
both Indeterminate Success = Indeterminate
both Indeterminate Failure = Failure
both Indeterminate Indeterminate = Indeterminate

-- `from_bool`
abbrev pub of_bool : Bool → Answer
of_bool true = Success
of_bool false = Failure
