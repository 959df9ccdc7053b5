-- Words that pass the tests of 2 and 8 with a names buffer say a sound store and a sound book; such words pass, and stay so along a list, since sound stays sound.
-- Assumes nothing.
use mathlib.Core.Path.{◌≡◌, refl, sym, ap, subst, ◌∙◌}
use mathlib.Core.Bool.{Bool, true, false, not}
use mathlib.Core.List.{List, [], ◌∷◌, ◌++◌}
use mathlib.Core.Option.{Option, none, some}
use Prim.Native.Nat.{ℕ}
use native.Mathlib.Omega.{arith}
use Rattle.scope.specs.Base.{pick}
use Rattle.scope.specs.Chart.{Env, chart_ok}
use Rattle.scope.specs.Nodes.{Store, opened}
use Rattle.scope.specs.Sound.{Lent, sound}
use Rattle.scope.specs.Refusals.{UNSOUND, Outcome, done, first_broken, or_refused, judged, store_of, lent_tests}
use Rattle.scope.specs.States.{Book, LentBook, stray_book, reads_book, blank, lent_book_sound, book_tests, wrong_length, no_place, named, book_of, name_state_call}
use Rattle.scope.specs.Replies.{Reply, nothing}
use Rattle.scope.specs.StatesDemand.{naming, name, desk}
use Rattle.scope.proofs.TestLaws.{tf}
use Rattle.scope.proofs.SoundLaws.{facts_sound}
use Rattle.scope.proofs.StatesKept.{SoundDesk, after_sound, opened_sound}
use Rattle.refusals.proofs.Laws.{none_some, passed_first, passed_next}
use Rattle.book.specs.Words.{book_in, book_clean, lent_book_of}
use Rattle.std.specs.Prelude.{Ok, Err}
use Rattle.promise.proofs.Laws.{lent_chart, lent_facts, lent_store, tested_clean}
use Rattle.theorem.specs.Memory.{Fixed, env, lent, held, Opened, TestedWords}
use Rattle.theorem.specs.DeskSteps.{DeskMemory, held_desk, TestedDesk, OpenedNames, DeskRan, name_state}
use Rattle.theorem.specs.DeskRuns.{DeskRuns, calls_in}
use Rattle.theorem.proofs.StepLaws.{clean_reads, not_done}
use Rattle.theorem.proofs.RunLaws.{opened_clean, opened_fresh}
use Rattle.theorem.proofs.DeskLaws.{CleanDesk, book_reads, desk_ended}
use Rattle.theorem.proofs.DeskOpened.{names_blank}

-- one test that is passed
one_passed : (b : Bool) → first_broken ((not b, UNSOUND) ∷ []) ≡ none → b ≡ true
one_passed false q = none_some UNSOUND q
one_passed true q = refl

-- a sound buffer is no stray one
sound_book : (e : Env) (s : Store) (bs : List ℕ) → lent_book_sound e s (lent_book_of bs) ≡ true → book_clean bs ≡ true
unfolding lent_book_of
sound_book e s bs = go (book_clean bs) refl
  where
    go : (b : Bool) → book_clean bs ≡ b → lent_book_sound e s (pick b (reads_book (book_in bs)) stray_book) ≡ true → b ≡ true
    go true q h = refl
    go false q h = tf (sym h)

module _ (f : Fixed) (d : DeskMemory) where
  abbrev e : Env
  e = env f

  -- the test of the names buffer
  abbrev book_test : List (Bool × ℕ)
  book_test = (not (lent_book_sound e (store_of (lent d.store)) (lent_book_of d.names)), UNSOUND) ∷ []

  -- what was lent passes, store and book
  module _ (t : TestedDesk f d) where
    pub tested_store : TestedWords f d.store
    tested_store = record { passed = passed_first (lent_tests e (lent d.store)) book_test t.passed }

    pub tested_chart : chart_ok e ≡ true
    tested_chart = lent_chart e d.store.head d.store.nodes d.store.kids tested_store.passed

    book_sound : lent_book_sound e (store_of (lent d.store)) (lent_book_of d.names) ≡ true
    book_sound = one_passed _ (passed_next (lent_tests e (lent d.store)) book_test t.passed)

    pub tested_desk : CleanDesk d
    tested_desk = record { store = record { is = tested_clean tested_store }; book = sound_book e (store_of (lent d.store)) d.names book_sound }

    pub tested_sound : SoundDesk e (held_desk d)
    tested_sound = record {
      store = facts_sound e (held d.store) (lent_facts e d.store.head d.store.nodes d.store.kids tested_store.passed);
      book =
          ap (λ (k : LentBook). lent_book_sound e (held d.store) k) (sym (book_reads d.names tested_desk.book))
          ∙ ap (λ (s : Store). lent_book_sound e s (lent_book_of d.names))
          (sym (lent_store e d.store.head d.store.nodes d.store.kids tested_store.passed))
          ∙ book_sound;
    }

  desk_tested : chart_ok e ≡ true → CleanDesk d → SoundDesk e (held_desk d) → TestedDesk f d
  desk_tested o k ok =
      let s : sound e (lent d.store) ≡ true = ap (sound e) (clean_reads k.store) ∙ ok.store in
      let b : lent_book_sound e (store_of (lent d.store)) (lent_book_of d.names) ≡ true =
      ap (λ (l : Lent). lent_book_sound e (store_of l) (lent_book_of d.names)) (clean_reads k.store)
      ∙ ap (lent_book_sound e (held d.store)) (book_reads d.names k.book)
      ∙ ok.book in
      record { passed = rw (o, s, b) refl }

-- opening
pub opened_tested : (f : Fixed) (n c : ℕ) (d : DeskMemory) → chart_ok (env f) ≡ true → Opened n c d.store → OpenedNames n c d.names → TestedDesk f d
opened_tested f n c d o w b =
    let z = opened_fresh w in
    let is : desk (opened n c) (blank n c) ≡ held_desk d = sym (λ i. desk (z.is i) (names_blank n c d.names b i)) in
    desk_tested f d o (record { store = opened_clean w; book = (b.left.book refl).clean }) (subst (SoundDesk (env f)) is (opened_sound (env f) n c z.nodes z.children))

-- a list
pub after_tested : (f : Fixed) (d d' : DeskMemory) → TestedDesk f d → DeskRuns f d d' → TestedDesk f d'
after_tested f d d' t run =
    let end = desk_ended f run (tested_desk f d t) in
    desk_tested f d' (tested_chart f d t) end.says (subst (SoundDesk (env f)) (sym end.desk) (after_sound (env f) (held_desk d) (tested_sound f d t) (calls_in run)))

-- where a naming is done, the words passed
judged_done : {A : Type 0} (ts : List (Bool × ℕ)) (o : Outcome A) {a : A} {s : Store} → judged ts o ≡ done a s → first_broken ts ≡ none
judged_done ts o {a} {s} = go (first_broken ts)
  where
    go : (x : Option ℕ) → or_refused x o ≡ done a s → x ≡ none
    go none q = refl
    go (some n) q = not_done q

done_tested : (e : Env) (l : Lent) (k : LentBook) (n : List ℕ) {b : Book} {s : Store} → name_state_call e l k n ≡ done b s → first_broken (book_tests e l k) ≡ none
unfolding name_state_call
done_tested e l k n q =
    let us : List (Bool × ℕ) = wrong_length n ∷ no_place n (book_of k).places ∷ [] in
    passed_first (book_tests e l k) us (judged_done (book_tests e l k ++ us) (done (named n (store_of l) (book_of k)) (store_of l)) q)

pub named_tested : (f : Fixed) {d d' : DeskMemory} {n : List ℕ} {r : Reply} → r ≡ nothing → DeskRan f d (naming (name n)) r d' → TestedDesk f d
named_tested f q (name_state {d} n (Ok u) p) = record { passed = done_tested (env f) (lent d.store) (lent_book_of d.names) n p.outcome }
named_tested f q (name_state n (Err k) p) = let z : ◌≡◌ {A = ℕ} 0 1 = cc in absurd (omega arith)
