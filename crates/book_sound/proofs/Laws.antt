-- One law for each way out of the test of a names buffer, and of the tests of 2 and 8 with it. What stands beside the chart says nothing of a held store.
-- Assumes nothing.
use mathlib.Core.Path.{◌≡◌, refl, ap, sym, ◌∙◌}
use mathlib.Core.Bool.{Bool, true, false, not, ◌&&◌, and-false}
use mathlib.Core.List.{List, [], ◌∷◌}
use mathlib.Core.Option.{none, some}
use Prim.Native.Nat.{ℕ, ◌≤◌, ◌<◌}
use native.Mathlib.Omega.{arith}
use lib.Dec.{eqb, leb}
use lib.ListN.{length}
use borrow.Author.Tests.{eq-eqb, ne_eqb, le-leb, lt-leb, not-false}
use Rattle.scope.specs.Base.{all, from}
use Rattle.scope.specs.Limits.{MAX_STATES}
use Rattle.scope.specs.Chart.{Env, chart_ok}
use Rattle.scope.specs.Nodes.{Store}
use Rattle.scope.specs.Sound.{Lent, reads, sound}
use Rattle.scope.specs.Refusals.{BAD_CHART, UNSOUND, first_broken, store_of, lent_tests}
use Rattle.scope.specs.States.{Place, Book, LentBook, stray_book, reads_book, blank, same_room, place_sound, names_differ, book_sound, lent_book_sound, book_tests}
use Rattle.names.proofs.Tests.{both, passes, fails}
use Rattle.chart.specs.declared.Beside.{Beside}
use Rattle.chart.specs.declared.Env as given
use Rattle.chart.specs.Env.{env_of, env_by, chart_in, chart_lent}
use Rattle.layout.specs.Words.{store_in, lent_of}
use Rattle.layout.specs.Meaning.{header_in}
use Rattle.layout.specs.declared.Header.{Header}
use Rattle.layout.proofs.Lists.{and_left, all_map}
use Rattle.layout.proofs.StoreLaws.{lent_clean}
use Rattle.refusals.proofs.Laws.{broken_first, broken_next, test_passed, tests_passed}
use Rattle.sound.specs.Tests.{env_lent}
use Rattle.sound.proofs.Laws.{all_both, sound_beside, sound_clean, env_ok, env_whole}
use Rattle.book.specs.Words.{BOOK_HEAD, book_words, place_at, place_clean, node_room_in, child_room_in, places_in, book_in, book_clean, lent_book_of}
use Rattle.book.specs.declared.Room.{Room}
use Rattle.book.specs.Places.{room_in, place_of}
use Rattle.book.proofs.Places.{places_length}
use Rattle.book_sound.specs.Tests.{room_alone, places_ok}
use Rattle.book_sound.proofs.NameLaws.{all_like}

-- of a store only its capacities are looked at, of a book's too
pub room_same : (e : Env) (s t : Store) → s.node_room ≡ t.node_room → s.child_room ≡ t.child_room → (k : LentBook) → lent_book_sound e s k ≡ lent_book_sound e t k
unfolding book_sound
room_same e s t p q stray_book = refl
room_same e s t p q (reads_book b) = rw (p, q) refl

place_same : (e : Env) (b : Book) (x : Place) → place_sound e b x ≡ place_sound e (blank b.node_room b.child_room) x
place_same e b none = refl
place_same e b (some h) = refl

module _ (e : Env) (s : Store) (bs : List ℕ) where
  abbrev lent : Bool
  lent = lent_book_sound e s (lent_book_of bs)

  stray_by : book_clean bs ≡ false → lent ≡ false
  unfolding lent_book_of
  stray_by q = rw q refl

  reads_by : book_clean bs ≡ true → lent ≡ book_sound e s (book_in bs)
  unfolding lent_book_of
  reads_by q = rw q refl

  whole_by : (t : Bool) → book_clean bs ≡ t → lent ≡ (book_clean bs && book_sound e s (book_in bs))
  whole_by true q = reads_by q ∙ sym (rw q refl)
  whole_by false q = stray_by q ∙ sym (rw q refl)

  whole : lent ≡ (book_clean bs && book_sound e s (book_in bs))
  whole = whole_by (book_clean bs) refl

  pub too_short : length bs < book_words (node_room_in bs) (child_room_in bs) → lent ≡ false
  unfolding book_clean
  too_short h =
      stray_by (rw (lt-leb (book_words (node_room_in bs) (child_room_in bs)) (length bs) h, and-false (leb BOOK_HEAD (length bs))) refl)

  unsound : book_sound e s (book_in bs) ≡ false → lent ≡ false
  unsound h = whole ∙ rw (h, and-false (book_clean bs)) refl

  other_room : same_room s (book_in bs) ≡ false → book_sound e s (book_in bs) ≡ false
  unfolding book_sound
  other_room h = rw (h, and-false (eqb (length (book_in bs).places) MAX_STATES)) refl

  pub other_nodes : (node_room_in bs ≡ s.node_room → ⊥) → lent ≡ false
  unfolding book_in
  other_nodes h = unsound (other_room (rw (ne_eqb s.node_room (node_room_in bs) (λ q. h (sym q))) refl))

  pub other_children : (child_room_in bs ≡ s.child_room → ⊥) → lent ≡ false
  unfolding book_in
  other_children h =
      unsound (other_room (rw (ne_eqb s.child_room (child_room_in bs) (λ q. h (sym q)), and-false (eqb s.node_room (node_room_in bs))) refl))

  module _ (words : book_words (node_room_in bs) (child_room_in bs) ≤ length bs) where
    abbrev clean_each : Bool
    clean_each = all (λ i. place_clean (node_room_in bs) (child_room_in bs) (place_at bs (node_room_in bs) (child_room_in bs) i)) (from 0 MAX_STATES)

    abbrev sound_each : Bool
    sound_each = all (λ i. place_sound e (blank (node_room_in bs) (child_room_in bs)) (place_of bs i)) (from 0 MAX_STATES)

    clean_is : book_clean bs ≡ clean_each
    unfolding book_clean
    clean_is = rw (le-leb BOOK_HEAD (length bs) (omega arith), le-leb (book_words (node_room_in bs) (child_room_in bs)) (length bs) words) refl

    both_is : places_ok e (node_room_in bs) (child_room_in bs) bs ≡ (clean_each && sound_each)
    both_is =
        all_both (λ i. place_clean (node_room_in bs) (child_room_in bs) (place_at bs (node_room_in bs) (child_room_in bs) i))
        (λ i. place_sound e (blank (node_room_in bs) (child_room_in bs)) (place_of bs i)) (from 0 MAX_STATES)

    each_is : all (place_sound e (book_in bs)) (places_in bs) ≡ sound_each
    unfolding book_in
    each_is =
        all_like (place_sound e (book_in bs)) (place_sound e (blank (node_room_in bs) (child_room_in bs))) (places_in bs) (place_same e (book_in bs))
        ∙ all_map (place_sound e (blank (node_room_in bs) (child_room_in bs))) (place_of bs) (from 0 MAX_STATES)

    pub places_clean : places_ok e (node_room_in bs) (child_room_in bs) bs ≡ true → book_clean bs ≡ true
    places_clean h = clean_is ∙ and_left clean_each sound_each (sym both_is ∙ h)

    module _ (nodes : node_room_in bs ≡ s.node_room) (children : child_room_in bs ≡ s.child_room) where
      book_is : book_sound e s (book_in bs) ≡ (sound_each && names_differ (places_in bs))
      unfolding book_sound book_in
      book_is =
          rw (
            eq-eqb (length (places_in bs)) MAX_STATES (places_length bs),
            eq-eqb s.node_room (node_room_in bs) (sym nodes),
            eq-eqb s.child_room (child_room_in bs) (sym children),
          )
          (ap (λ (b : Bool). b && names_differ (places_in bs)) each_is)

      all_is : lent ≡ (clean_each && (sound_each && names_differ (places_in bs)))
      all_is = whole ∙ rw (clean_is, book_is) refl

      split : (a b d : Bool) → (a && b) ≡ false → (a && (b && d)) ≡ false
      split true b d h = rw h refl
      split false b d h = refl

      pub bad_place : places_ok e (node_room_in bs) (child_room_in bs) bs ≡ false → lent ≡ false
      bad_place h = all_is ∙ split clean_each sound_each (names_differ (places_in bs)) (sym both_is ∙ h)

      pub by_names : places_ok e (node_room_in bs) (child_room_in bs) bs ≡ true → lent ≡ names_differ (places_in bs)
      by_names h =
          let p = both clean_each sound_each (sym both_is ∙ h) in
          all_is ∙ rw (p.0, p.1) refl

-- the same of what the code reads: a room r in the buffer and a header y of the store
module _ (e : Env) (h bs : List ℕ) {r : Room} {y : Header} (w : r ≡ room_in bs) (x : y ≡ header_in h) where
  abbrev answer : Bool
  answer = lent_book_sound e (room_alone h) (lent_book_of bs)

  nodes_read : r.nodes ≡ node_room_in bs
  nodes_read = ap (λ (z : Room). z.nodes) w

  children_read : r.children ≡ child_room_in bs
  children_read = ap (λ (z : Room). z.children) w

  nodes_held : y.node_room ≡ (room_alone h).node_room
  nodes_held = ap (λ (z : Header). z.node_room) x

  children_held : y.child_room ≡ (room_alone h).child_room
  children_held = ap (λ (z : Header). z.child_room) x

  pub read_nodes : (r.nodes ≡ y.node_room → ⊥) → false ≡ answer
  read_nodes f = sym (other_nodes e (room_alone h) bs (λ q. f (nodes_read ∙ (q ∙ sym nodes_held))))

  pub read_children : (r.children ≡ y.child_room → ⊥) → false ≡ answer
  read_children f = sym (other_children e (room_alone h) bs (λ q. f (children_read ∙ (q ∙ sym children_held))))

  module _ {n : ℕ} (b : n ≡ book_words r.nodes r.children) where
    pub read_short : length bs < n → false ≡ answer
    read_short l = sym (too_short e (room_alone h) bs (rw (b, w) at l))

    module _ (long : n ≤ length bs) {p : Bool} (q : p ≡ places_ok e r.nodes r.children bs) where
      words : book_words (node_room_in bs) (child_room_in bs) ≤ length bs
      words = rw (b, w) at long

      places_read : p ≡ places_ok e (node_room_in bs) (child_room_in bs) bs
      places_read = rw w at q

      pub read_clean : not p ≡ false → book_clean bs ≡ true
      read_clean t = places_clean e (room_alone h) bs words (passes places_read t)

      module _ (nodes : r.nodes ≡ y.node_room) (children : r.children ≡ y.child_room) where
        same_nodes : node_room_in bs ≡ (room_alone h).node_room
        same_nodes = sym nodes_read ∙ (nodes ∙ nodes_held)

        same_children : child_room_in bs ≡ (room_alone h).child_room
        same_children = sym children_read ∙ (children ∙ children_held)

        pub read_bad : not p ≡ true → false ≡ answer
        read_bad t = sym (bad_place e (room_alone h) bs words same_nodes same_children (fails places_read t))

        pub read_names : not p ≡ false → answer ≡ names_differ (places_in bs)
        read_names t = by_names e (room_alone h) bs words same_nodes same_children (passes places_read t)

-- what stands beside the chart

module _ (ws : List ℕ) (b : Beside) (rule text : List ℕ) where
  place_beside : (k : Book) (x : Place) → place_sound (env_of ws b rule text) k x ≡ place_sound (chart_in ws rule text) k x
  place_beside k none = refl
  place_beside k (some h) = rw (sound_beside ws b rule text (reads h.store)) refl

  book_beside : (s : Store) (k : LentBook) → lent_book_sound (env_of ws b rule text) s k ≡ lent_book_sound (chart_in ws rule text) s k
  unfolding book_sound
  book_beside s stray_book = refl
  book_beside s (reads_book k) =
      rw (all_like (place_sound (env_of ws b rule text) k) (place_sound (chart_in ws rule text) k) k.places (place_beside k)) refl

-- the tests of 2 and 8 of a store and its names buffer

module _ (e : given.Env) (h ns ks : List ℕ) (k : LentBook) where
  abbrev tests : List (Bool × ℕ)
  tests = book_tests (env_lent e) (lent_of h ns ks) k

  -- the test of the names buffer
  abbrev last : List (Bool × ℕ)
  last = (not (lent_book_sound (env_lent e) (store_of (lent_of h ns ks)) k), UNSOUND) ∷ []

  -- 2 or 8 of the store
  pub names_back : {n : ℕ} → first_broken (lent_tests (env_lent e) (lent_of h ns ks)) ≡ some n → first_broken tests ≡ some n
  names_back {n = n} q = broken_first (lent_tests (env_lent e) (lent_of h ns ks)) last n q

  module _ (q : first_broken (lent_tests (env_lent e) (lent_of h ns ks)) ≡ none) where
    abbrev store_test : List (Bool × ℕ)
    store_test = (not (sound (env_lent e) (lent_of h ns ks)), UNSOUND) ∷ []

    chart_stands : env_lent e ≡ env_by e
    chart_stands =
        let c : chart_ok (env_lent e) ≡ true =
        not-false _ (test_passed (not (chart_ok (env_lent e))) BAD_CHART store_test q) in
        env_whole _ _ _ _ (sym (env_ok _ _ _ _) ∙ c)

    store_stands : lent_of h ns ks ≡ reads (store_in h ns ks)
    store_stands =
        let r = tests_passed (not (chart_ok (env_lent e))) BAD_CHART store_test q in
        let s : sound (env_lent e) (lent_of h ns ks) ≡ true =
        not-false _ (test_passed (not (sound (env_lent e) (lent_of h ns ks))) UNSOUND [] r) in
        lent_clean h ns ks (sound_clean h ns ks (env_lent e) s)

    book_stands : lent_book_sound (env_lent e) (store_of (lent_of h ns ks)) k ≡ lent_book_sound (chart_lent e) (room_alone h) k
    unfolding store_in
    book_stands =
        ap (λ (x : Env). lent_book_sound x (store_of (lent_of h ns ks)) k) chart_stands
        ∙ (ap (λ (l : Lent). lent_book_sound (env_by e) (store_of l) k) store_stands
        ∙ (book_beside _ _ _ _ (store_in h ns ks) k ∙ room_same (chart_lent e) (store_in h ns ks) (room_alone h) refl refl k))

    left : first_broken tests ≡ first_broken ((not (lent_book_sound (chart_lent e) (room_alone h) k), UNSOUND) ∷ [])
    left =
        broken_next (lent_tests (env_lent e) (lent_of h ns ks)) last q
        ∙ ap (λ (t : Bool). first_broken ((not t, UNSOUND) ∷ [])) book_stands

    pub names_unsound : lent_book_sound (chart_lent e) (room_alone h) k ≡ false → first_broken tests ≡ some UNSOUND
    names_unsound f = left ∙ rw f refl

    pub names_pass : lent_book_sound (chart_lent e) (room_alone h) k ≡ true → first_broken tests ≡ none
    names_pass t = left ∙ rw t refl
