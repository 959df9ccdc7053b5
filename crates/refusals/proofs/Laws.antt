-- The first test that is broken: tests in a row give what their first part gives, or what the rest gives where the first part passes. So a refusal that a
-- function tells of a part of a call's tests is the call's, and it makes the call's outcome.
-- Assumes nothing.
use mathlib.Core.Path.{◌≡◌, refl, ap, sym, ◌∙◌}
use mathlib.Core.Bool.{Bool, true, false}
use mathlib.Core.List.{List, [], ◌∷◌, ◌++◌}
use mathlib.Core.Option.{Option, none, some}
use Prim.Native.Nat.{ℕ}
use native.Mathlib.Omega.{arith}
use Rattle.std.specs.Prelude.{Result, Ok, Err, IsErrAnd}
use Rattle.scope.specs.Base.{pick}
use Rattle.scope.specs.Calls.{Outcome, refused, or_refused, judged, first_broken}

pub none_some : {A : Type 0} (n : ℕ) → ◌≡◌ {A = Option ℕ} (some n) none → A
none_some n q = let z : ◌≡◌ {A = ℕ} 0 1 = cc in absurd (omega arith)

-- tests in a row

first_step : (b : Bool) (m n : ℕ) (o p : Option ℕ) → (o ≡ some n → p ≡ some n) → pick b (some m) o ≡ some n → pick b (some m) p ≡ some n
first_step true m n o p f q = q
first_step false m n o p f q = f q

next_step : {A : Type 0} (b : Bool) (m : ℕ) (o : Option ℕ) → (b ≡ false → o ≡ none → A) → pick b (some m) o ≡ none → A
next_step true m o f q = none_some m q
next_step false m o f q = f refl q

pub broken_first : (ts us : List (Bool × ℕ)) (n : ℕ) → first_broken ts ≡ some n → first_broken (ts ++ us) ≡ some n
broken_first [] us n q = none_some n (sym q)
broken_first (t ∷ ts) us n q = first_step t.0 t.1 n (first_broken ts) (first_broken (ts ++ us)) (broken_first ts us n) q

pub broken_next : (ts us : List (Bool × ℕ)) → first_broken ts ≡ none → first_broken (ts ++ us) ≡ first_broken us
broken_next [] us q = refl
broken_next (t ∷ ts) us q = next_step t.0 t.1 (first_broken ts) (λ f r. rw f (broken_next ts us r)) q

pub passed_first : (ts us : List (Bool × ℕ)) → first_broken (ts ++ us) ≡ none → first_broken ts ≡ none
passed_first [] us q = refl
passed_first (t ∷ ts) us q = next_step t.0 t.1 (first_broken (ts ++ us)) (λ f r. rw f (passed_first ts us r)) q

pub passed_next : (ts us : List (Bool × ℕ)) → first_broken (ts ++ us) ≡ none → first_broken us ≡ none
passed_next ts us q = sym (broken_next ts us (passed_first ts us q)) ∙ q

-- the first test of a row

pub test_stands : {b : Bool} (n : ℕ) (ts : List (Bool × ℕ)) → b ≡ true → first_broken ((b, n) ∷ ts) ≡ some n
test_stands n ts q = rw q

pub test_falls : {b : Bool} (n : ℕ) (ts : List (Bool × ℕ)) → b ≡ false → first_broken ((b, n) ∷ ts) ≡ first_broken ts
test_falls n ts q = rw q

pub test_passed : (b : Bool) (n : ℕ) (ts : List (Bool × ℕ)) → first_broken ((b, n) ∷ ts) ≡ none → b ≡ false
test_passed b n ts q = next_step b n (first_broken ts) (λ f r. f) q

pub tests_passed : (b : Bool) (n : ℕ) (ts : List (Bool × ℕ)) → first_broken ((b, n) ∷ ts) ≡ none → first_broken ts ≡ none
tests_passed b n ts q = next_step b n (first_broken ts) (λ f r. r) q

-- what the tests make of a call

pub judged_refused : {A : Type 0} (ts : List (Bool × ℕ)) (o : Outcome A) (n : ℕ) → first_broken ts ≡ some n → judged ts o ≡ refused n
judged_refused ts o n q = ap (λ (x : Option ℕ). or_refused x o) q

pub judged_done : {A : Type 0} (ts : List (Bool × ℕ)) (o : Outcome A) → first_broken ts ≡ none → judged ts o ≡ o
judged_done ts o q = ap (λ (x : Option ℕ). or_refused x o) q

-- an error that `?` hands on is the error that it met
pub err_told : {A B : Type 0} (r : Result A B) {e : B} → IsErrAnd r (λ x. x ≡ e) → r ≡ Err e
err_told (Ok a) q = absurd q
err_told (Err x) q = ap Err q
