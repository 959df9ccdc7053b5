-- What every public call promises, and the tests that they share. A reply is a value or a refusal's number. "Each public call's outcome equals a
-- definition of its arguments: answer, store, buffers, for refusals too."
use Rattle.std.specs.Prelude.{◌≡◌, List, [], ◌∷◌, ◌++◌, Bool, true, false, ℕ, Result, Ok, Err}
use Rattle.std.proofs.Math.Option.{Option, none}
use Rattle.scope.specs.Chart.{Env}
use Rattle.scope.specs.Types.{Ty, ty_of}
use Rattle.scope.specs.Nodes.{Store}
use Rattle.scope.specs.Sound.{Lent}
use Rattle.scope.specs.Calls.{Outcome, refused, done, first_broken, store_of, lent_tests, outside}
use Rattle.layout.specs.Words.{store_in, lent_of}
use Rattle.store.specs.Holds.{Became}
use Rattle.refusals.specs.declared.Refusal.{Refusal}
use Rattle.refusals.specs.Codes.{number}
use Rattle.types.specs.declared.«Type».{«Type»}

pub data Reply (A : Type 0) : Type 0 where
  value : A → Reply A
  refusal : ℕ → Reply A

-- what the code's answers reply, where f says what a value means
abbrev pub reply : {A B : Type 0} → (A → B) → Result A Refusal → Reply B
reply f (Ok a) = value (f a)
reply f (Err r) = refusal (number r)

abbrev pub type_reply : Result «Type» Refusal → Reply Ty
type_reply r = reply (λ t. ty_of t.0) r

abbrev pub bool_reply : Result Bool Refusal → Reply Bool
bool_reply r = reply (λ b. b) r

abbrev pub done_reply : Result (Unit {0}) Refusal → Reply (Unit {0})
done_reply r = reply (λ u. tt) r

-- a reply, with the store afterwards, as an outcome
abbrev pub outcome_by : {A : Type 0} → Reply A → Store → Outcome A
outcome_by (value a) s = done a s
outcome_by (refusal n) s = refused n

abbrev pub answered : {A : Type 0} → Reply A → Bool
answered (value a) = true
answered (refusal n) = false

-- every word is as found
pub record AsFound (h ws ks h' ws' ks' : List ℕ) : Type 0 where
  pub head : h' ≡ h
  pub nodes : ws' ≡ ws
  pub kids : ks' ≡ ks

-- a call on the slices h ws ks, which then hold h' ws' ks'. Its outcome o is the reply with the store that they then hold; they hold one again, and
-- words past it are as found; a refusal leaves every word as found
pub record Promised {A : Type 0} (o : Outcome A) (r : Reply A) (h ws ks h' ws' ks' : List ℕ) : Type 0 where
  pub outcome : o ≡ outcome_by r (store_in h' ws' ks')
  pub again : answered r ≡ true → Became h ws ks h' ws' ks' (store_in h' ws' ks')
  pub kept : answered r ≡ false → AsFound h ws ks h' ws' ks'

-- chart and store pass the tests of 2 and 8. Opening leaves such a store, and so does every call, so a call on what another left has no need to test it
pub record Tested (e : Env) (h ws ks : List ℕ) : Type 0 where
  pub passed : first_broken (lent_tests e (lent_of h ws ks)) ≡ none

-- the tests of a call on listed types
abbrev pub types_tests : Env → Lent → List Ty → List (Bool × ℕ)
types_tests e l ts = lent_tests e l ++ (outside (store_of l) ts ∷ [])

-- n is the first of refusals 2, 8 and 3 that stands for a call on listed types, if one does
pub record TypesTested (e : Env) (h ws ks : List ℕ) (ts : List Ty) (n : Option ℕ) : Type 0 where
  pub first : first_broken (types_tests e (lent_of h ws ks) ts) ≡ n

-- refusal 3 of listed types by the header alone, whatever nodes and children are
pub record TypesInside (h : List ℕ) (ts : List Ty) (n : Option ℕ) : Type 0 where
  pub code : (ws ks : List ℕ) → first_broken (outside (store_in h ws ks) ts ∷ []) ≡ n
