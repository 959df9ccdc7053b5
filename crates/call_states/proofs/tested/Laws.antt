-- A store and a names buffer that passed the tests of 2 and 8: both are clean, and what is lent is the store and the book that their words hold. So a call's
-- tests are those of its arguments, asked of that book. Then one law for each way through a call: turned back, or done.
-- Assumes nothing.
use mathlib.Core.Path.{◌≡◌, refl, ap, ◌∙◌}
use mathlib.Core.Bool.{Bool, true, false, not}
use mathlib.Core.List.{List, [], ◌∷◌, ◌++◌}
use mathlib.Core.Option.{Option, none}
use Prim.Native.Nat.{ℕ}
use native.Mathlib.Omega.{arith}
use lib.ListN.{length}
use borrow.Author.Tests.{not-false}
use Rattle.scope.specs.Limits.{MAX_STATES}
use Rattle.scope.specs.Chart.{Env}
use Rattle.scope.specs.Nodes.{Store}
use Rattle.scope.specs.Sound.{Lent}
use Rattle.scope.specs.Refusals.{UNSOUND, Outcome, refused, done, or_refused, judged, first_broken, store_of, lent_tests}
use Rattle.scope.specs.States.{Place, Book, LentBook, reads_book, book_of, same_room, book_sound, lent_book_sound, book_tests}
use Rattle.scope.proofs.BookLaws.{BookFacts, book_facts}
use Rattle.layout.specs.Words.{store_in, clean, lent_of}
use Rattle.store.specs.Holds.{Became}
use Rattle.store.proofs.Laws.{beyond_refl}
use Rattle.refusals.proofs.Laws.{broken_next, passed_first, passed_next, test_passed}
use Rattle.promise.specs.Promise.{value, refusal}
use Rattle.promise.proofs.Laws.{lent_clean_words, lent_store}
use Rattle.book.specs.Words.{book_in, book_clean, lent_book_of, BookBecame}
use Rattle.call_states.specs.Promise.{NamesPromised, TestedNames}

-- a names buffer that 8 does not turn back says a book
sound_book : (e : Env) (s : Store) (bs : List ℕ) (t : Bool) → book_clean bs ≡ t → lent_book_sound e s (lent_book_of bs) ≡ true
    → (lent_book_of bs ≡ reads_book (book_in bs)) × (book_clean bs ≡ true)
unfolding lent_book_of
sound_book e s bs true q h = (rw q refl, q)
sound_book e s bs false q h = let z : ◌≡◌ {A = Bool} false true = rw q at h in let y : ◌≡◌ {A = ℕ} 0 1 = cc in absurd (omega arith)

module _ {e : Env} {h ws ks bs : List ℕ} (t : TestedNames e h ws ks bs) where
  abbrev l : Lent
  l = lent_of h ws ks

  abbrev k : LentBook
  k = lent_book_of bs

  abbrev book_test : List (Bool × ℕ)
  book_test = (not (lent_book_sound e (store_of l) k), UNSOUND) ∷ []

  store_passed : first_broken (lent_tests e l) ≡ none
  store_passed = passed_first (lent_tests e l) book_test t.passed

  pub names_clean : clean h ws ks ≡ true
  names_clean = lent_clean_words e h ws ks store_passed

  names_store : store_of l ≡ store_in h ws ks
  names_store = lent_store e h ws ks store_passed

  book_passed : lent_book_sound e (store_of l) k ≡ true
  book_passed =
      not-false (lent_book_sound e (store_of l) k)
      (test_passed (not (lent_book_sound e (store_of l) k)) UNSOUND [] (passed_next (lent_tests e l) book_test t.passed))

  reads_book_lem : (k ≡ reads_book (book_in bs)) × (book_clean bs ≡ true)
  reads_book_lem = sound_book e (store_of l) bs (book_clean bs) refl book_passed

  names_book : k ≡ reads_book (book_in bs)
  names_book = reads_book_lem.0

  pub names_book_clean : book_clean bs ≡ true
  names_book_clean = reads_book_lem.1

  names_sound : book_sound e (store_in h ws ks) (book_in bs) ≡ true
  names_sound = rw (names_book, names_store) at book_passed

  facts : BookFacts e (store_in h ws ks) (book_in bs)
  facts = book_facts e (store_in h ws ks) (book_in bs) names_sound

  pub names_room : same_room (store_in h ws ks) (book_in bs) ≡ true
  names_room = facts.room

  pub names_eight : length (book_in bs).places ≡ MAX_STATES
  names_eight = facts.eight

  -- once 2 and 8 are passed, a call is its own tests and its work on what the words hold
  pub names_outcome : (us : List Place → List (Bool × ℕ)) (f : Store → Book → Outcome Book)
      → judged (book_tests e l k ++ us (book_of k).places) (f (store_of l) (book_of k)) ≡ judged (us (book_in bs).places) (f (store_in h ws ks) (book_in bs))
  names_outcome us f =
      ap (λ (o : Option ℕ). or_refused o (f (store_of l) (book_of k))) (broken_next (book_tests e l k) (us (book_of k).places) t.passed)
      ∙ rw (names_book, names_store) refl

  -- a call that leaves the store
  pub store_stays : Became h ws ks h ws ks (store_in h ws ks)
  store_stays = record { holds = record { clean = names_clean; is = refl }; beyond = beyond_refl }

  -- and one that leaves the names buffer
  pub book_stays : BookBecame bs bs (book_in bs)
  book_stays = record { clean = names_book_clean; is = refl; beyond = refl }

-- a call that is turned back, and one that is done

pub names_back : {o : Outcome Book} {n : ℕ} {h ws ks bs : List ℕ} → o ≡ refused n → NamesPromised o (refusal n) h ws ks bs h ws ks bs
names_back q = record {
  outcome = q;
  again = λ y. let v : ◌≡◌ {A = ℕ} 0 1 = cc in absurd (omega arith);
  book = λ y. let v : ◌≡◌ {A = ℕ} 0 1 = cc in absurd (omega arith);
  kept = λ y. record { head = refl; nodes = refl; kids = refl };
  kept_book = λ y. refl;
}

pub names_done : {o : Outcome Book} {b : Book} {s : Store} {h ws ks bs h' ws' ks' bs' : List ℕ} → o ≡ done b s → Became h ws ks h' ws' ks' s
    → BookBecame bs bs' b → NamesPromised o (value tt) h ws ks bs h' ws' ks' bs'
names_done q c d = record {
  outcome = q ∙ rw (d.is, c.holds.is) refl;
  again = λ y. rw c.holds.is c;
  book = λ y. rw d.is d;
  kept = λ y. let v : ◌≡◌ {A = ℕ} 0 1 = cc in absurd (omega arith);
  kept_book = λ y. let v : ◌≡◌ {A = ℕ} 0 1 = cc in absurd (omega arith);
}
