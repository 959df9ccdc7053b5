-- A number below the count of values is that value, and one over all values is a refusal; a result's number is below three and gives it back.
-- Assumes nothing.
use mathlib.Core.Path.{◌≡◌, refl, ap, ◌∙◌}
use mathlib.Core.Bool.{Bool, true, false}
use mathlib.Core.List.{List}
use Prim.Native.Nat.{ℕ, ◌+◌, ◌<◌, ◌≤◌}
use native.Mathlib.Decide.{dec_le}
use native.Mathlib.Omega.{arith}
use native.Mathlib.Nat.{add-sub_cancel_left}
use borrow.Author.Tests.{lt-ltb, le-ltb, le-leb, lt-leb, ltb-true}
use lib.ListN.{length, take}
use lib.Seq.{length-take-le}
use mir.Val.{bool_byte}
use Rattle.std.specs.Prelude.{Result, Ok, Err, IsOkAnd, MatchResult}
use Rattle.refusals.specs.declared.Refusal.{Refusal}
use Rattle.refusals.specs.Codes.{number}
use Rattle.promise.specs.Promise.{value, refusal, reply}
use Rattle.promise.specs.Prints.{count_reply}
use Rattle.types.specs.Answers.{answer_of, number_of}
use Rattle.types.specs.declared.UnifyResult.{UnifyResult}
use Rattle.types.specs.declared.UnifyResult.TheVariants.{Success, Failure, Indeterminate}
use Rattle.c_words.specs.Numbers.{REFUSED, answer_in, bool_in, unify_in, count_in, count_low, LONGEST, counted}

module _ {A : Type 0} (n : ℕ) (is : ℕ → A) where
  pub number_value : (r : ℕ) → r < n → answer_in n is r ≡ value (is r)
  unfolding answer_in
  number_value r below = rw (lt-ltb r n below)

  pub number_refused : (m : ℕ) → n ≤ REFUSED → answer_in n is (REFUSED + m) ≡ refusal m
  unfolding answer_in
  number_refused m low =
      let over : n ≤ REFUSED + m = omega (arith, low) in
      rw (le-ltb (REFUSED + m) n over, add-sub_cancel_left)

-- what a result b of numbers tells is what a says, where each number that P gives a value tells it
module _ {T A : Type 0} (n : ℕ) (is : ℕ → A) (to : T → A) (low : n ≤ REFUSED) (r : ℕ) where
  pub number_told : {P : T → ℕ → Type 0} (a : Result T Refusal) (b : Result ℕ Refusal) → MatchResult a (λ t. IsOkAnd b (P t)) (λ e. b ≡ Err e)
      → MatchResult b (λ w. (r ≡ w) × (w < REFUSED)) (λ e. r ≡ REFUSED + number e)
      → ((t : T) (w : ℕ) → P t w → w < REFUSED → answer_in n is w ≡ value (to t)) → answer_in n is r ≡ reply to a
  number_told (Ok t) (Ok w) p q one = rw q.0 (one t w p q.1)
  number_told (Ok t) (Err e) p q one = absurd p
  number_told (Err e) b p q one = let s = rw p at q in
      rw s (number_refused n is (number e) low)

-- what a result b of numbers tells is what a says, where a is a refusal or a length below every refusal's number
pub number_low : {P : ℕ → ℕ → Type 0} (r : ℕ) (a b : Result ℕ Refusal) → count_low a ≡ true → MatchResult a (λ n. IsOkAnd b (P n)) (λ e. b ≡ Err e)
    → MatchResult b (λ w. (r ≡ w) × (w < REFUSED)) (λ e. r ≡ REFUSED + number e)
    → ((n w : ℕ) → P n w → n < REFUSED → w ≡ n) → count_in r ≡ count_reply a
number_low r (Ok n) (Ok w) low p q one = rw q.0 (number_value REFUSED (λ n. n) w q.1 ∙ ap value (one n w p (ltb-true n REFUSED low)))
number_low r (Ok n) (Err e) low p q one = absurd p
number_low r (Err e) b low p q one = let s = rw p at q in
    rw s (number_refused REFUSED (λ n. n) (number e) (omega arith))

pub number_result : (u : UnifyResult) → unify_in (number_of u) ≡ value (answer_of u)
unfolding answer_in
number_result Success = refl
number_result Failure = refl
number_result Indeterminate = refl

-- yes and no are 1 and 0
pub number_bool : (b : Bool) → bool_in (bool_byte b) ≡ value b
unfolding answer_in
number_bool true = refl
number_bool false = refl

-- a buffer is used whole, or as far as a length can tell; so a length within it is below every refusal's number
counted_few : (n : ℕ) → counted n ≤ n
counted_few n = go (dec_le n LONGEST)
  where
    go : Dec (n ≤ LONGEST) → counted n ≤ n
    go (yes h) = rw (le-leb n LONGEST h) (omega arith)
    go (no h) =
        let l : LONGEST < n = omega arith in
        rw (lt-leb n LONGEST l) (omega arith)

pub counted_low : (n : ℕ) → counted n < REFUSED
counted_low n = go (dec_le n LONGEST)
  where
    go : Dec (n ≤ LONGEST) → counted n < REFUSED
    go (yes h) = rw (le-leb n LONGEST h) (omega arith)
    go (no h) =
        let l : LONGEST < n = omega arith in
        rw (lt-leb n LONGEST l) (omega arith)

-- as much of a buffer b as is used, and as much as was lent
pub counted_long : (b e : List ℕ) (n : ℕ) → n ≡ counted (length b) → length e ≡ length (take n b) → length e ≡ n
counted_long b e n q l =
    let few : n ≤ length b = rw q (counted_few (length b)) in
    l ∙ length-take-le n b few
