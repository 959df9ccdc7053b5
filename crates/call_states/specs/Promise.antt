-- What a call on a store and its names buffer promises: its whole outcome, every word of both afterwards, and that a refusal leaves every word as found.
use Rattle.scope.specs.Chart.{Env}
use Rattle.std.specs.Prelude.{◌≡◌, List, true, false, ℕ}
use Rattle.std.proofs.Math.Option.{none}
use Rattle.scope.specs.Nodes.{Store}
use Rattle.scope.specs.Refusals.{Outcome, refused, done, first_broken}
use Rattle.scope.specs.States.{Book, Opening, unopened, opens, book_tests}
use Rattle.layout.specs.Words.{store_in, lent_of}
use Rattle.store.specs.Holds.{Became}
use Rattle.book.specs.Words.{book_in, lent_book_of, BookBecame}
use Rattle.promise.specs.Promise.{Reply, value, refusal, answered, AsFound}

-- a reply, with the book and the store afterwards, as an outcome
abbrev pub names_outcome : Reply (Unit {0}) → Book → Store → Outcome Book
names_outcome (value u) b s = done b s
names_outcome (refusal n) b s = refused n

pub record NamesPromised (o : Outcome Book) (r : Reply (Unit {0})) (h ws ks bs h' ws' ks' bs' : List ℕ) : Type 0 where
  pub outcome : o ≡ names_outcome r (book_in bs') (store_in h' ws' ks')
  pub again : answered r ≡ true → Became h ws ks h' ws' ks' (store_in h' ws' ks')
  pub book : answered r ≡ true → BookBecame bs bs' (book_in bs')
  pub kept : answered r ≡ false → AsFound h ws ks h' ws' ks'
  pub kept_book : answered r ≡ false → bs' ≡ bs

-- opening a names buffer
abbrev pub opening_by : Reply (Unit {0}) → Book → Opening
opening_by (value u) b = opens b
opening_by (refusal n) b = unopened n

pub record NamesOpened (o : Opening) (r : Reply (Unit {0})) (bs bs' : List ℕ) : Type 0 where
  pub outcome : o ≡ opening_by r (book_in bs')
  pub book : answered r ≡ true → BookBecame bs bs' (book_in bs')
  pub kept : answered r ≡ false → bs' ≡ bs

-- chart, store and names buffer pass the tests of 2 and 8
pub record TestedNames (e : Env) (h ws ks bs : List ℕ) : Type 0 where
  pub passed : first_broken (book_tests e (lent_of h ws ks) (lent_book_of bs)) ≡ none
