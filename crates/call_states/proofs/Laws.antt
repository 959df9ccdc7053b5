-- Where 2 or 8 stands, of chart, store or names buffer, a call's outcome is that refusal, whatever its other tests and its work are; where none does, they are
-- tested. And opening a names buffer: one law for each way out, from what its test tells.
-- Assumes nothing.
use mathlib.Core.Path.{◌≡◌, refl, ap, sym, ◌∙◌}
use mathlib.Core.Bool.{Bool}
use mathlib.Core.List.{List, [], ◌∷◌, ◌++◌}
use mathlib.Core.Option.{Option, none, some}
use Prim.Native.Nat.{ℕ}
use native.Mathlib.Omega.{arith}
use lib.Dec.{leb}
use lib.ListN.{length}
use Rattle.scope.specs.Chart.{Env}
use Rattle.scope.specs.Force.{reset}
use Rattle.scope.specs.Sound.{Lent}
use Rattle.scope.specs.Refusals.{Outcome, done, judged, first_broken, store_of, open_test}
use Rattle.scope.specs.States.{Book, LentBook, book_of, blank, store_under, book_tests, wrong_length, unheld, no_place, opens, or_unopened, open_names_call}
use Rattle.scope.specs.States.{named, name_state_call, keep_reports, return_to_call, dropped, drop_name_call, reset_names_call}
use Rattle.refusals.proofs.Laws.{broken_first, judged_refused}
use Rattle.promise.specs.Promise.{value, refusal}
use Rattle.book.specs.Words.{book_words, BookBecame}
use Rattle.call_states.specs.Promise.{NamesPromised, NamesOpened}
use Rattle.call_states.proofs.tested.Laws.{names_back}

-- one refusal stands

module _ (e : Env) (l : Lent) (k : LentBook) {n : ℕ} (q : first_broken (book_tests e l k) ≡ some n) {h ws ks bs : List ℕ} where
  turned : (us : List (Bool × ℕ)) (o : Outcome Book) → NamesPromised (judged (book_tests e l k ++ us) o) (refusal n) h ws ks bs h ws ks bs
  turned us o = names_back (judged_refused (book_tests e l k ++ us) o n (broken_first (book_tests e l k) us n q))

  pub name_back : (m : List ℕ) → NamesPromised (name_state_call e l k m) (refusal n) h ws ks bs h ws ks bs
  unfolding name_state_call
  name_back m = turned (wrong_length m ∷ no_place m (book_of k).places ∷ []) (done (named m (store_of l) (book_of k)) (store_of l))

  pub return_back : (m : List ℕ) → NamesPromised (return_to_call e l k m) (refusal n) h ws ks bs h ws ks bs
  unfolding return_to_call
  return_back m = turned (unheld m (book_of k).places ∷ []) (done (book_of k) (keep_reports (store_of l) (store_under m (book_of k).places)))

  pub drop_back : (m : List ℕ) → NamesPromised (drop_name_call e l k m) (refusal n) h ws ks bs h ws ks bs
  unfolding drop_name_call
  drop_back m = turned (unheld m (book_of k).places ∷ []) (done (dropped m (book_of k)) (store_of l))

  pub reset_back : NamesPromised (reset_names_call e l k) (refusal n) h ws ks bs h ws ks bs
  unfolding reset_names_call
  reset_back = turned [] (done (blank (book_of k).node_room (book_of k).child_room) (reset (store_of l)))

-- opening

module _ (n c : ℕ) (bs : List ℕ) where
  abbrev enough : Bool
  enough = leb (book_words n c) (length bs)

  pub open_back : {r : ℕ} → first_broken (open_test n c enough ∷ []) ≡ some r → NamesOpened (open_names_call n c enough) (refusal r) bs bs
  unfolding open_names_call
  open_back q = record {
    outcome = ap (λ (o : Option ℕ). or_unopened o (blank n c)) q;
    book = λ y. let v : ◌≡◌ {A = ℕ} 0 1 = cc in absurd (omega arith);
    kept = λ y. refl;
  }

  module _ (q : first_broken (open_test n c enough ∷ []) ≡ none) where
    pub open_done : {bs' : List ℕ} → BookBecame bs bs' (blank n c) → NamesOpened (open_names_call n c enough) (value tt) bs bs'
    unfolding open_names_call
    open_done b = record {
      outcome = ap (λ (o : Option ℕ). or_unopened o (blank n c)) q ∙ ap opens (sym b.is);
      book = λ y. rw b.is b;
      kept = λ y. let v : ◌≡◌ {A = ℕ} 0 1 = cc in absurd (omega arith);
    }
