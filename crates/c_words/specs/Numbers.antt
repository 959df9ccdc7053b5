-- The numbers that a caller in another language gets. A type is its word, yes is 1 and no 0, and an answer of `unify` its place in the Rust's enum. A public
-- call answers a value's number, which is below 4,294,967,296, or the sum of 4,294,967,296 and a refusal's number.
use Rattle.std.specs.Prelude.{◌≡◌, Bool, true, List, ℕ, ◌-◌, eqb, ltb, leb, length, take, drop, Result, Ok, Err}
use Rattle.std.proofs.Math.Option.{Option, none, some}
use Rattle.scope.specs.Base.{pick}
use Rattle.scope.specs.Types.{Ty, ty_of}
use Rattle.scope.specs.Answers.{Answer, Success, Failure, Indeterminate}
use Rattle.scope.specs.Nodes.{Store}
use Rattle.scope.specs.Calls.{Printed}
use Rattle.refusals.specs.declared.Refusal.{Refusal}
use Rattle.promise.specs.Promise.{Reply, value, refusal}
use Rattle.promise.specs.Prints.{PrintPromised}

-- refusal n is this and n; every value is below
abbrev pub REFUSED : ℕ
REFUSED = 4294967296

-- what the number r replies, where there are n values, numbered from 0
unfoldable pub answer_in : {A : Type 0} → ℕ → (ℕ → A) → ℕ → Reply A
answer_in n is r = pick (ltb r n) (value (is r)) (refusal (r - REFUSED))

abbrev pub type_in : ℕ → Reply Ty
type_in r = answer_in REFUSED ty_of r

abbrev pub done_in : ℕ → Reply (Unit {0})
done_in r = answer_in 1 (λ w. tt) r

abbrev pub bool_in : ℕ → Reply Bool
bool_in r = answer_in 2 (λ w. eqb w 1) r

-- 0 Success, 1 Failure, 2 Indeterminate
abbrev pub RESULTS : ℕ
RESULTS = 3

abbrev pub result_in : ℕ → Answer
result_in r = pick (eqb r 0) Success (pick (eqb r 1) Failure Indeterminate)

abbrev pub unify_in : ℕ → Reply Answer
unify_in r = answer_in RESULTS result_in r

abbrev pub count_in : ℕ → Reply ℕ
count_in r = answer_in REFUSED (λ n. n) r

-- a refusal's own number, 0 where none stands
abbrev pub refusal_in : ℕ → Option ℕ
refusal_in n = pick (eqb n 0) none (some n)

-- the answer of which P holds replies by f what is said
pub record Says {A B : Type 0} (f : A → Reply B) (said : Reply B) (P : A → Type 0) : Type 0 where
  pub answer : A
  pub reply : said ≡ f answer
  pub promised : P answer

-- a length that a number below every refusal's can tell
abbrev pub count_low : Result ℕ Refusal → Bool
count_low (Ok n) = ltb n REFUSED
count_low (Err r) = true

-- the longest such length, and how much of a buffer is used
abbrev pub LONGEST : ℕ
LONGEST = 4294967295

abbrev pub counted : ℕ → ℕ
counted n = pick (leb n LONGEST) n LONGEST

-- what a printer promises of as much of its buffer as a length can tell: p is its outcome of that part, which was b's and is now b''s, and the rest of the
-- buffer is as found
pub record CutPromised (p : List ℕ → Printed) (r : Reply ℕ) (s : Store) (b b' : List ℕ) : Type 0 where
  pub printed : PrintPromised (p (take (counted (length b)) b)) r s (take (counted (length b)) b')
  pub rest : drop (counted (length b)) b' ≡ drop (counted (length b)) b
