-- One law for each way out of a call on a tested store and names buffer, from what its code finds.
-- Assumes nothing.
use mathlib.Core.Path.{◌≡◌, refl, ap, ◌∙◌}
use mathlib.Core.Bool.{Bool, true, false, not, ◌||◌}
use mathlib.Core.List.{List, [], ◌∷◌}
use mathlib.Core.Option.{none}
use Prim.Native.Nat.{ℕ, ◌<◌, ◌≤◌}
use native.Mathlib.Omega.{arith}
use borrow.Author.Tests.{le-leb, lt-leb}
use Rattle.scope.specs.Base.{pick}
use Rattle.scope.specs.Limits.{MAX_STATES}
use Rattle.scope.specs.Chart.{Env}
use Rattle.scope.specs.Nodes.{Store}
use Rattle.scope.specs.Force.{reset}
use Rattle.scope.specs.Refusals.{UNHELD, NO_PLACE, Outcome, refused, done, judged}
use Rattle.scope.specs.States.{Place, Book, blank, under, is_held, place_where, place_for, name_length, store_under, wrong_length, unheld, no_place}
use Rattle.scope.specs.States.{named, name_state_call, keep_reports, return_to_call, dropped, drop_name_call, reset_names_call}
use Rattle.layout.specs.Words.{store_in, lent_of}
use Rattle.store.specs.Holds.{Became}
use Rattle.promise.specs.Promise.{Reply, value, refusal}
use Rattle.book.specs.Words.{places_in, book_in, lent_book_of, BookBecame}
use Rattle.states.specs.Ready.{holding, with_place, store_at, AtPlace, NameReady, ReturnReady}
use Rattle.states.specs.Free.{DropReady, ResetReady, ResetLeft}
use Rattle.call_states.specs.Promise.{NamesPromised, TestedNames}
use Rattle.call_states.specs.Places.{place_held}
use Rattle.call_states.proofs.tested.PlaceLaws.{held_there, held_nowhere, no_place_lem, found_held}
use Rattle.call_states.proofs.tested.Laws.{names_clean, names_book_clean, names_room, names_eight, names_outcome, store_stays, book_stays, names_back, names_done}

-- tests of a name

module _ {A : Type 0} (o : Outcome A) where
  first_stands : (a p : Bool) → a ≡ false → judged ((not a, UNHELD) ∷ (p, NO_PLACE) ∷ []) o ≡ refused UNHELD
  first_stands a p x = rw x refl

  second_stands : (a p : Bool) → a ≡ true → p ≡ true → judged ((not a, UNHELD) ∷ (p, NO_PLACE) ∷ []) o ≡ refused NO_PLACE
  second_stands a p x y = rw (x, y) refl

  none_stands : (a p : Bool) → a ≡ true → p ≡ false → judged ((not a, UNHELD) ∷ (p, NO_PLACE) ∷ []) o ≡ o
  none_stands a p x y = rw (x, y) refl

  held_stands : (a p : Bool) → a ≡ true → p ≡ true → judged ((not a || not p, UNHELD) ∷ []) o ≡ o
  held_stands a p x y = rw (x, y) refl

  unheld_by : (a p : Bool) → (a ≡ true → p ≡ false) → judged ((not a || not p, UNHELD) ∷ []) o ≡ refused UNHELD
  unheld_by true p x = rw (x refl) refl
  unheld_by false p x = refl

-- where a name of a right length is held

right_by : (t : Bool) (i : ℕ) → pick t i MAX_STATES < MAX_STATES → t ≡ true
right_by true i l = refl
right_by false i l = absurd (omega arith)

there_by : (t : Bool) (i : ℕ) → pick t i MAX_STATES < MAX_STATES → pick t i MAX_STATES ≡ i
there_by true i l = refl
there_by false i l = absurd (omega arith)

module _ {e : Env} {h ws ks bs : List ℕ} (t : TestedNames e h ws ks bs) where
  abbrev env : Env
  env = e

  abbrev s : Store
  s = store_in h ws ks

  abbrev ps : List Place
  ps = (book_in bs).places

  places_are : places_in bs ≡ ps
  unfolding book_in
  places_are = refl

  at_place : {i : ℕ} → i < MAX_STATES → AtPlace h ws ks bs i
  at_place l = record { clean = names_clean t; book = names_book_clean t; room = names_room t; inside = l }

  -- what a call that is done leaves of the store and of the names buffer
  abbrev Names : Outcome Book → Reply (Unit {0}) → List ℕ → List ℕ → List ℕ → List ℕ → Type 0
  Names o r h' ws' ks' bs' = NamesPromised o r h ws ks bs h' ws' ks' bs'

  module _ (n : List ℕ) where
    abbrev naming : Outcome Book
    naming = name_state_call env (lent_of h ws ks) (lent_book_of bs) n

    naming_is : naming ≡ judged (wrong_length n ∷ no_place n ps ∷ []) (done (named n s (book_in bs)) s)
    unfolding name_state_call
    naming_is = names_outcome t (λ qs. wrong_length n ∷ no_place n qs ∷ []) (λ x y. done (named n x y) x)

    pub name_wrong : name_length n ≡ false → Names naming (refusal UNHELD) h ws ks bs
    name_wrong e = names_back (naming_is ∙ first_stands (done (named n s (book_in bs)) s) (name_length n) (no_place n ps).0 e)

    module _ (r : name_length n ≡ true) {i : ℕ} (q : i ≡ place_for n (places_in bs)) where
      for_is : i ≡ place_for n ps
      for_is = q ∙ ap (place_for n) places_are

      pub name_full : MAX_STATES ≤ i → Names naming (refusal NO_PLACE) h ws ks bs
      name_full l =
          let f = for_is in
          names_back (naming_is ∙ second_stands (done (named n s (book_in bs)) s) (name_length n) (no_place n ps).0 r
          (no_place_lem n ps (names_eight t) ∙ le-leb MAX_STATES (place_for n ps) (omega arith)))

      module _ (l : i < MAX_STATES) where
        pub name_ready : NameReady h ws ks bs i n
        name_ready = record { at = at_place l; fits = r }

        passed : naming ≡ done (named n s (book_in bs)) s
        passed =
            let f = for_is in
            naming_is ∙ none_stands (done (named n s (book_in bs)) s) (name_length n) (no_place n ps).0 r
            (no_place_lem n ps (names_eight t) ∙ lt-leb MAX_STATES (place_for n ps) (omega arith))

        pub name_done : {bs' : List ℕ} → BookBecame bs bs' (with_place (book_in bs) i (holding n s)) → Names naming (value tt) h ws ks bs'
        name_done c = names_done passed (store_stays t) (rw for_is at c)

    -- returning and dropping

    abbrev returning : Outcome Book
    returning = return_to_call env (lent_of h ws ks) (lent_book_of bs) n

    abbrev dropping : Outcome Book
    dropping = drop_name_call env (lent_of h ws ks) (lent_book_of bs) n

    returning_is : returning ≡ judged (unheld n ps ∷ []) (done (book_in bs) (keep_reports s (store_under n ps)))
    unfolding return_to_call
    returning_is = names_outcome t (λ qs. unheld n qs ∷ []) (λ x y. done y (keep_reports x (store_under n y.places)))

    dropping_is : dropping ≡ judged (unheld n ps ∷ []) (done (dropped n (book_in bs)) s)
    unfolding drop_name_call
    dropping_is = names_outcome t (λ qs. unheld n qs ∷ []) (λ x y. done (dropped n y) x)

    module _ {i : ℕ} (q : i ≡ place_held n (places_in bs)) where
      held_is : i ≡ place_held n ps
      held_is = q ∙ ap (place_held n) places_are

      not_held : MAX_STATES ≤ i → name_length n ≡ true → is_held n ps ≡ false
      not_held l e =
          let f : i ≡ place_where (under n) ps = rw e at held_is in
          held_nowhere n ps (names_eight t) (omega arith)

      pub return_unheld : MAX_STATES ≤ i → Names returning (refusal UNHELD) h ws ks bs
      return_unheld l =
          names_back (returning_is ∙ unheld_by (done (book_in bs) (keep_reports s (store_under n ps))) (name_length n) (is_held n ps) (not_held l))

      pub drop_unheld : MAX_STATES ≤ i → Names dropping (refusal UNHELD) h ws ks bs
      drop_unheld l = names_back (dropping_is ∙ unheld_by (done (dropped n (book_in bs)) s) (name_length n) (is_held n ps) (not_held l))

      module _ (l : i < MAX_STATES) where
        inside : place_held n ps < MAX_STATES
        inside = rw held_is at l

        right : name_length n ≡ true
        right = right_by (name_length n) (place_where (under n) ps) inside

        there : i ≡ place_where (under n) ps
        there = held_is ∙ there_by (name_length n) (place_where (under n) ps) inside

        is_held_lem : is_held n ps ≡ true
        is_held_lem = let f = there in held_there n ps (names_eight t) (omega arith)

        pub return_ready : ReturnReady h ws ks bs i
        return_ready = record { at = at_place l; held = rw there (found_held n ps is_held_lem) }

        pub return_done : {h' ws' ks' : List ℕ} → Became h ws ks h' ws' ks' (keep_reports s (store_at (book_in bs) i)) → Names returning (value tt) h' ws' ks' bs
        return_done c =
            names_done
            (returning_is ∙ held_stands (done (book_in bs) (keep_reports s (store_under n ps))) (name_length n) (is_held n ps) right is_held_lem)
            (rw there at c) (book_stays t)

        pub drop_ready : DropReady bs i
        drop_ready = record { book = names_book_clean t; inside = l }

        pub drop_done : {bs' : List ℕ} → BookBecame bs bs' (with_place (book_in bs) i none) → Names dropping (value tt) h ws ks bs'
        drop_done c =
            names_done
            (dropping_is ∙ held_stands (done (dropped n (book_in bs)) s) (name_length n) (is_held n ps) right is_held_lem)
            (store_stays t) (rw there at c)

  -- emptying

  abbrev emptying : Outcome Book
  emptying = reset_names_call env (lent_of h ws ks) (lent_book_of bs)

  emptying_is : emptying ≡ done (blank (book_in bs).node_room (book_in bs).child_room) (reset s)
  unfolding reset_names_call
  emptying_is = names_outcome t (λ qs. []) (λ x y. done (blank y.node_room y.child_room) (reset x))

  pub reset_ready : ResetReady h ws ks bs
  reset_ready = record { clean = names_clean t; book = names_book_clean t }

  pub reset_done : {h' ws' ks' bs' : List ℕ} → ResetLeft h ws ks bs h' ws' ks' bs' → Names emptying (value tt) h' ws' ks' bs'
  reset_done c = names_done emptying_is c.store c.book
